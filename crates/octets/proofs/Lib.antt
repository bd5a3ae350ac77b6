-- Laws that belong to no one function.
pub mod Bytes
pub mod Numbers
pub mod Ordered
pub mod Parts
pub mod Words
pub mod Pieces
