-- The laws of this crate.
-- Assumes nothing.
pub mod TableLaws
pub mod Ranges
