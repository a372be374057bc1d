-- The definitions that the contracts of this crate use: `Packet`, by document 01; `Meaning` for the code's answer. `Back` is for theorems.
pub mod Packet
pub mod Meaning
pub mod Back
