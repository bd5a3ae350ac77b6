-- What the contracts of this crate and of those above it cite.
pub mod Bytes
pub mod Order
pub mod Number
pub mod Written
pub mod Pieces
pub mod Determined
