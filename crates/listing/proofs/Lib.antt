-- Laws that belong to no one function. A reader opens Theorems.
pub mod Puts
pub mod Listed
pub mod Theorems
