-- The definitions that the contracts of this crate use: `Draft`, by document 01; `Meaning` for the code's types.
pub mod Draft
pub mod Meaning
