-- A run leaves the buffers that it is lent as long as they were. Nothing else is said of it: no contract can say what a descriptor gives or takes.
use Rattle.std.specs.Prelude.{ℕ, ◌≡◌, List, length}

pub record SameLengths (part part' line line' room room' out out' : List ℕ) : Type 0 where
  pub parts : length part' ≡ length part
  pub lines : length line' ≡ length line
  pub rooms : length room' ≡ length room
  pub outs : length out' ≡ length out
