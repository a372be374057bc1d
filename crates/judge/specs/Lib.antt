-- The definitions that the contracts of this crate use, with those of `bearer`: `Commands` is the Request of a command; `Private`
-- is used only by private functions.
pub mod Commands
pub mod Private
