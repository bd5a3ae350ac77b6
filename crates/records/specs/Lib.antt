-- A record: its parts, its slot, its rank, and the choice between two.
pub mod Record
pub mod Rank
pub mod Order
pub mod Choice
pub mod Determined
