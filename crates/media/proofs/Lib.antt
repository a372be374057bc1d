-- The laws of the definitions in `specs/`, a file for each subject.
-- Assumes nothing.
pub mod TextsLaws
pub mod LineLaws
pub mod LimitLaws
pub mod InsideLaws
pub mod BackLaws
