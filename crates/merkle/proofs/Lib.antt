-- Laws that belong to no one function.
pub mod Theorems
pub mod Checked
pub mod Honest
pub mod Nodes
pub mod Climbs
pub mod Roots
pub mod Collide
pub mod Padding
pub mod Halves
pub mod Stretch
pub mod Sisters
pub mod Zeros
