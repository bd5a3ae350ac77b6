-- What the contracts of this crate and of those above it cite, and the statements that a reader looks for.
pub mod Stamp
pub mod Rules
pub mod InOrder
pub mod Determined
