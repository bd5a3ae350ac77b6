-- The draw as document 01 has it: the shelf, cell by cell, and what a draw answers and hands back.
pub mod Answer
pub mod Shelf
pub mod Draw
pub mod Inside
pub mod Theorems
pub mod Determined
pub mod Refused
