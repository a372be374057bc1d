-- The laws of the definitions in `specs/`, a file for each subject.
-- Assumes nothing.
pub mod LineLaws
pub mod StreamLaws
pub mod RangeLaws
pub mod WriteLaws
pub mod Back
