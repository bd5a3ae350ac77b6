-- The offer on bytes.
pub mod Stamps
pub mod Answer
pub mod Offer
pub mod Determined
-- what parts of the code start from and leave
pub mod Place
pub mod Edit
pub mod Awaits
