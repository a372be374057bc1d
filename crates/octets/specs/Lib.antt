-- The definitions that the contracts of this crate use, a file for each subject. `Private` is used only by private functions.
pub mod Text
pub mod Split
pub mod Refusals
pub mod Puts
pub mod Append
pub mod Decimal
pub mod Chain
pub mod Hex
pub mod Spans
pub mod Words
pub mod Private
