-- What each call of making answers, on every input.
pub mod Answer
pub mod Determined
pub mod Refused
