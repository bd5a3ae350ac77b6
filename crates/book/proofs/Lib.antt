-- Laws of a book's bytes. A reader opens Roundtrip.

-- records in bytes
pub mod Laid
pub mod Cuts
pub mod Fields
pub mod Records
pub mod Slots
-- the header
pub mod Headed
-- tests
pub mod Truths
-- bytes and values, both ways round
pub mod Written
pub mod Roundtrip
pub mod Soundness
