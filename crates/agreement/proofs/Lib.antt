-- The sentences proved. A reader opens Theorems.
pub mod Fresh
pub mod Drawn
pub mod Theorems
pub mod Example
