-- What machines of one neighbourhood agree on, over the definitions of the book and the draw.
pub mod Theorems
pub mod Example
