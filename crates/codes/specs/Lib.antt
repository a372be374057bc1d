-- The definitions that the contracts of this crate use.
pub mod Codes
