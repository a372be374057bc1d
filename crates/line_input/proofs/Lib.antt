-- The laws of `gather`, and of any chain of its calls.
-- Assumes nothing.
pub mod GatherLaws
pub mod WholeLaws
pub mod LfLaws
