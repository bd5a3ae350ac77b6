-- The table, proved.
pub mod Theorems
