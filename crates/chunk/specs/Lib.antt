-- What each call of addresses answers, on every input.
pub mod Answer
pub mod Determined
