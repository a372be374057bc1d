-- The definitions that the contracts of this crate use. `Private` is used only by private functions.
pub mod Again
pub mod Private
