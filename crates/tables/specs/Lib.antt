-- The permutation's two tables, by the rules of FIPS 202.
pub mod Rules
pub mod Determined
