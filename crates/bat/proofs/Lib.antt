-- The laws of elements.
-- Assumes nothing.
pub mod WalkLaws
pub mod DataLaws
pub mod FrameLaws
pub mod CountLaws
pub mod RangeLaws
pub mod JudgeLaws
pub mod RoundTrip
pub mod DecodedLaws
pub mod ElementsLaws
