-- Keccak-256: as a textbook hash, as a sponge that is a value, and what two messages with one digest are.
pub mod Sponge
pub mod Hash
pub mod Collision
pub mod Determined
