-- Laws that belong to no one function.

-- bytes that hold what their header counts
pub mod Wholeness
-- the pass that counts, and the depth by its counters
pub mod Counting
-- the pass that packs, and the bytes it leaves
pub mod Packing
pub mod Keeping
