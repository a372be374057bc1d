-- The laws of reading and judging elements.
-- Assumes nothing.
pub mod SimpleLaws
pub mod ConstructorLaws
pub mod ReadLaws
pub mod InnerLaws
pub mod FindingLaws
pub mod OutcomeLaws
pub mod ListedLaws
pub mod Through
