-- The laws of the definitions that the contracts of this crate cite, a file for each subject.
-- Assumes nothing.
pub mod AddressLaws
pub mod HearingLaws
pub mod CommandLaws
