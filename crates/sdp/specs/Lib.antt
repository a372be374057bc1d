-- The definitions that the contracts of this crate use: `Lines` for reading and `Written` for writing, by document 01; `Meaning` for the
-- code's `Line`; `Private` is used only by private functions.
pub mod Lines
pub mod Written
pub mod Meaning
pub mod Private
