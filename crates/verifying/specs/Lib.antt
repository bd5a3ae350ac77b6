-- What each call of checking answers, on every input.
pub mod Answer
pub mod Determined
