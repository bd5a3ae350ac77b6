-- Laws that belong to no one function.
pub mod Edits
pub mod Pieces
pub mod Turns
