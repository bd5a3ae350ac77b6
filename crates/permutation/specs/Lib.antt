-- Keccak-f[1600] in the Keccak team's names, as its pseudo-code and FIPS 202 have it.
pub mod Lanes
pub mod Steps
pub mod Permutation
pub mod Rows
pub mod Determined
