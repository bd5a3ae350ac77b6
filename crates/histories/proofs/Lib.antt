-- Laws of histories and of one offer. A reader opens Theorems.
pub mod Heard
pub mod Answered
pub mod Outside
pub mod Room
pub mod Theorems
