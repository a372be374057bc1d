-- The definitions that the endpoint's contracts use: `Bearer` is what a bearer is, `Hearing` what a message is to an endpoint,
-- `Judging` which commands and messages are right; `Meaning` says what the code's structs and enums stand for.
pub mod Bearer
pub mod Hearing
pub mod Judging
pub mod Meaning
