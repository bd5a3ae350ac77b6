-- Chunks as documents 01 and 004 have them: the tree, the address, segments, and the segment proof; and which answers are refusals.
pub mod Tree
pub mod Proof
pub mod Segment
pub mod Refusal
pub mod Zeros
