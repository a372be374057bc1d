-- The worked examples, and the lists of events with what is struck of them.
-- Assumes nothing.
pub mod Examples
pub mod Strikes
pub mod Outside
