-- Laws that belong to no one function.
pub mod Lane
pub mod Step
pub mod Textbook
pub mod Theorems
