-- The law of the definition in `specs/`.
-- Assumes nothing.
pub mod AgainLaws
