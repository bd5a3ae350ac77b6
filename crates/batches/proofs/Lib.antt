-- Laws of the list: its records, and that its test is the sentence.
pub mod Records
pub mod Listed
pub mod Theorems
