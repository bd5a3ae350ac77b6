-- What the answers come to, and the laws that the functions' proofs need.
pub mod Tests
pub mod Told
