-- The definitions that the contracts of this crate use: `Types`, `Reading` and `Writing`, by document 01; `Meaning` for the code's types;
-- `Private` is used only by private functions.
pub mod Types
pub mod Reading
pub mod Writing
pub mod Meaning
pub mod Private
