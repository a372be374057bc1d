-- How the programs show what the card reads and writes. `Private` is used only by private functions.
pub mod Notation
pub mod Private
