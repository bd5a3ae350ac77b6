-- nearness by two words
pub mod Nearing
