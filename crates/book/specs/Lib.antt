-- The book as bytes, and the state that it stands for.
pub mod Layout
pub mod Shape
pub mod Book
pub mod Lawful
pub mod Determined
