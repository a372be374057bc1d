-- The definitions that the contracts of this crate use: document 01's table of element entries. `Private` is used only by
-- private functions.
pub mod Table
pub mod Private
