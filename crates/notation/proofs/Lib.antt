-- The laws of the definitions in `specs/`, a file for each subject.
-- Assumes nothing.
pub mod Laws
pub mod OctetsLaws
