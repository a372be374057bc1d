-- The laws of the definitions in `specs/`, a file for each subject.
-- Assumes nothing.
pub mod InnerLaws
pub mod TokenLaws
pub mod CutLaws
