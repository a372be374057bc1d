-- The laws of the definitions in `specs/`, a file for each subject.
-- Assumes nothing.
pub mod TypeLaws
pub mod WholeLaws
pub mod ReadLaws
pub mod WrittenLaws
pub mod RoundTrip
pub mod Lengths
pub mod ReadRange
