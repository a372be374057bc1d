-- The definitions that the contracts of this crate use. `Private` is used only by private functions.
pub mod Code
pub mod Examining
pub mod Private
