-- Laws that belong to no one function.
pub mod Leading
pub mod Words
pub mod Shared
pub mod Definition6
