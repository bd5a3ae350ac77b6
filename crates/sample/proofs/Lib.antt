-- Laws that belong to no one function.
pub mod Entering
pub mod Gathering
pub mod Chosen
pub mod Laying
pub mod Placing
pub mod Writing
pub mod Held
pub mod Sheet
