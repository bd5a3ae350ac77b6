-- Laws of opening: a fresh book's bytes, and the answers.
pub mod Fresh
pub mod Opening
