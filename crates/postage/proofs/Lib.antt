-- Laws that belong to no one function.
pub mod Search
pub mod Ruled
pub mod InOrder
pub mod Slots
pub mod Theorems
