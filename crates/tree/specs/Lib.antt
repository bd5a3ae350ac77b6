-- What the calls of the tree give.
pub mod Root
pub mod Determined
