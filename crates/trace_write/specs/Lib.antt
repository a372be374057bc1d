-- What a trace prints: `Words` are the words of its fields, `Lines` its lines, `Detail` what a detailed trace adds to them.
pub mod Words
pub mod Lines
pub mod Detail
