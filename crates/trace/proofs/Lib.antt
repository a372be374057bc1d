-- The laws of the definitions in `specs/`, a file for each subject.
-- Assumes nothing.
pub mod ConfiguringLaws
pub mod EventLaws
pub mod Right
