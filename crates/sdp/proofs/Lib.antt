-- The laws of this crate.
-- Assumes nothing.
pub mod PlainLaws
pub mod CutLaws
pub mod EndLaws
pub mod WrittenLines
