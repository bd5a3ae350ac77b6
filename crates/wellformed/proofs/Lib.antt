-- Laws of the test: its parts, a turn of its pass, what it says, and what its parts say of the whole.
pub mod Tests
pub mod Tested
pub mod Verdicts
