-- The listing as document 01 has it, and what the code promises.
pub mod Reading
pub mod Line
pub mod Listing
pub mod Put
pub mod Sheet
pub mod Determined
