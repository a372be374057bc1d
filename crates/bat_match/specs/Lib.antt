-- Document 02's E1 in `Matching`, what the answers mean in `Meaning`, and what the theorems say in `Promises`. `Singles` and `Private` are used
-- only by private functions.
pub mod Matching
pub mod Meaning
pub mod Promises
pub mod Singles
pub mod Private
