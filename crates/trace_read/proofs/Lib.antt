-- The laws of the definitions in `specs/`, a file for each subject.
-- Assumes nothing.
pub mod FieldLaws
pub mod EventLaws
pub mod LendLaws
pub mod ConfigureLaws
pub mod CodecLaws
