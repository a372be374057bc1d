-- The definitions that the contracts of this crate use. `Rule` is document 01's "One endpoint" as a verdict on each event, given
-- configuration and book; `Step` is what the public functions promise; `Demand` is demand 3; `Promises` has what else is promised about
-- an event; `Private` is used only by private functions.
pub mod Rule
pub mod Step
pub mod Demand
pub mod Promises
pub mod Private
