-- Laws of the book. A reader opens Theorems.

-- records: rank, slots, depth
pub mod Cases
pub mod Rank
pub mod Enter
pub mod Inside
pub mod Members
pub mod Holders
-- books: settling, what offers keep, histories, their reading by members, answers
pub mod Settle
pub mod Sound
pub mod Histories
pub mod Winners
pub mod Answers
pub mod Table
pub mod Offers
pub mod Theorems
pub mod Sheet
-- for code over bytes: the place by halving, the depth by counters, one law for each way that an offer ends
pub mod Places
pub mod Counters
pub mod Least
pub mod Steps
