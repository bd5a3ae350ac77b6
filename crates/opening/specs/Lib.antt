-- Opening a book.
pub mod Open
pub mod Determined
