-- The numbers of answers.
pub mod Number
pub mod Determined
