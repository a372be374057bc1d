-- The laws of the definitions in `specs/`, a file for each subject.
-- Assumes nothing.
pub mod CodecLaws
pub mod SearchLaws
pub mod PlacedLaws
pub mod ReducedLaws
pub mod SelectionLaws
pub mod PartLaws
pub mod NumberLaws
pub mod ListLaws
pub mod WriteLaws
pub mod AnswerLaws
pub mod Promises
