-- How near a record lies to a book's overlay.
pub mod Near
pub mod Determined
