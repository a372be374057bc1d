-- The contract of `write_message` uses definitions of `ipbcp` (`Writing`, `Meaning`). `Back` is for theorems; `Private` is used
-- only by functions that are not public.
pub mod Back
pub mod Private
