-- What the contracts of this crate cite, and what they come to.
pub mod Count
pub mod Equal
pub mod Agree
pub mod Determined
