-- The definitions that the contracts of this crate use: `Configuration` is document 01's, `Meaning` says what the code's structs
-- stand for, `Private` is used only by private functions.
pub mod Configuration
pub mod Meaning
pub mod Private
