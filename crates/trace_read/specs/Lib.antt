-- What the lines of a trace say: `Words` are the words that begin them, `Events` an event, `Configuring` what configures the endpoint,
-- `Lending` the length of an output buffer. `Meaning` says what the code's structs and enums stand for. `Private` is used only by
-- private functions.
pub mod Words
pub mod Events
pub mod Configuring
pub mod Lending
pub mod Meaning
pub mod Private
