-- The laws of the definitions in `specs/`, a file for each subject.
-- Assumes nothing.
pub mod CaseLaws
pub mod Laws
pub mod SplitLaws
pub mod Pick
pub mod PartLaws
pub mod AppendLaws
pub mod PutsLaws
pub mod DecimalLaws
pub mod HexLaws
pub mod SpanLaws
pub mod WordLaws
pub mod RoundTrip
