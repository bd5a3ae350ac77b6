-- The table, proved.
pub mod Books
