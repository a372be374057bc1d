-- The laws of the definitions in `specs/`, a file for each subject.
-- Assumes nothing.
pub mod OpenLaws
pub mod WrapLaws
pub mod Back
