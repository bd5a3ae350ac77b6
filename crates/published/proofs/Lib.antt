-- Known answers, computed from the definition.
pub mod Empty
