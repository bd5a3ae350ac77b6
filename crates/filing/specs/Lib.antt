-- What a rise does to the bytes of a book.
pub mod Whole
pub mod Least
pub mod Keep
pub mod Determined
