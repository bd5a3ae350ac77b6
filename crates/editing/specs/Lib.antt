-- A book's bytes after an edit.
pub mod Edit
pub mod Determined
