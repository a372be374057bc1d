-- The laws of the definitions in `specs/`, a file for each subject.
-- Assumes nothing.
pub mod ElementLaws
pub mod PutLaws
pub mod CodecLaws
pub mod SelectedLaws
pub mod DiagnosticLaws
pub mod ContentsLaws
pub mod RangeLaws
pub mod WriteLaws
pub mod Back
pub mod InsideLaws
