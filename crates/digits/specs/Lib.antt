-- "Numbers are decimal, bytes lower-case hex", and what the code promises.
pub mod Field
pub mod Spelled
pub mod Determined
