-- The definitions that the contracts of this crate use: `Stream` and `Attributes`, by document 01; `Meaning` for the code's types; `Private`
-- is used only by private functions.
pub mod Stream
pub mod Attributes
pub mod Meaning
pub mod Private
