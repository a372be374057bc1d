-- The definitions that the contracts of this crate use: `Tokens`, and `Meaning` for what the code's spans stand for.
pub mod Tokens
pub mod Meaning
