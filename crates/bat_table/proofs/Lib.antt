-- The laws of the table of element entries.
-- Assumes nothing.
pub mod StepLaws
pub mod FillLaws
pub mod Parts
pub mod Room
