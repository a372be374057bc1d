-- What a trace prints, line by line: `Trace` says what each line does, `Meaning` what the code's structs stand for, `Right` what
-- holds of the configuration. `Private` is used only by private functions.
pub mod Trace
pub mod Meaning
pub mod Right
pub mod Private
