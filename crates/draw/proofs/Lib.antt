-- Laws that belong to no one function.
pub mod Different
pub mod Shelves
pub mod Answered
pub mod Judging
pub mod Tabled
pub mod Theorems
pub mod Walking
pub mod Lending
pub mod Taking
pub mod Collecting
pub mod Handing
pub mod Sheet
