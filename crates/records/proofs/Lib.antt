-- Laws of records.
pub mod Ranks
pub mod Buckets
