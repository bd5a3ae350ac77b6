-- The sample as document 01 has it: the sixteen, the 1,024 bytes, the commitment; and the buffer in which the sixteen are kept.
pub mod Sample
pub mod Kept
pub mod Inside
pub mod Determined
