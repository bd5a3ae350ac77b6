-- The table that a reader looks for.
pub mod Books
