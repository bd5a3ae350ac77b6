-- Laws that belong to no one function.

-- the place of a slot
pub mod Halves
-- edits
pub mod Standing
pub mod Stored
pub mod Bursting
pub mod Keeping
-- the offer
pub mod Stamped
pub mod Ways
-- the offer's code
pub mod Steps
pub mod Enters
pub mod Rises
