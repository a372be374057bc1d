-- The definitions that the contracts of this crate use, a file for each subject. `Back` is for theorems; `Private` is used only by
-- functions that are not public.
pub mod Kinds
pub mod Parts
pub mod Ipv4
pub mod Ipv6
pub mod Canonical
pub mod Back
pub mod Private
