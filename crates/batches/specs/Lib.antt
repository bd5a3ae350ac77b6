-- The batch list, and what determines its check.
pub mod Batch
pub mod Determined
