-- Laws that belong to no one function.
pub mod Rounds
pub mod Published
