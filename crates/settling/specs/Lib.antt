-- What a reader must believe of the book, and the sentences that are proved of it.
pub mod Rank
pub mod Book
pub mod Answer
pub mod History
pub mod Tally
pub mod Meaning
pub mod Theorems
