-- The laws of the definitions in `specs/`, demand 3, and what else can be quoted.
-- Assumes nothing.
pub mod VerdictLaws
pub mod EventLaws
pub mod MessageLaws
pub mod Ruled
pub mod Demand
pub mod RunsExist
pub mod Promises
