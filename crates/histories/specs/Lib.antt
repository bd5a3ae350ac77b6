-- Histories on bytes, and the sentences that are proved of them.
pub mod Histories
pub mod Theorems
