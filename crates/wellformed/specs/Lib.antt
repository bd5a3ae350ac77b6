-- Being well formed, as a test that computes.
pub mod Check
pub mod Tested
pub mod Determined
