-- The laws of the definitions in `specs/`.
-- Assumes nothing.
pub mod PushLaws
