-- A cell of the shelf as document 01 has it, and what is read of it.
pub mod Cell
pub mod Read
pub mod Determined
