-- What elements are, in document 01's order; what the code's values and answers mean; and what it means to read an element
-- back. `Private` is used only by private functions.
pub mod Framing
pub mod Values
pub mod Judging
pub mod Writing
pub mod Code
pub mod FramingMeaning
pub mod ValueMeaning
pub mod JudgingMeaning
pub mod Back
pub mod Elements
pub mod Private
