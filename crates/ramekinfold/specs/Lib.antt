-- What the C face hands back.
pub mod Digested
pub mod Part
pub mod Numbered
pub mod Drawn
pub mod Determined
pub mod Refused
