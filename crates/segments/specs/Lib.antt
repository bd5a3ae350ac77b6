-- What the calls of segments give.
pub mod Determined
