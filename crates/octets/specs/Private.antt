-- Private: used only by private functions of this crate.
use Rattle.std.specs.Prelude.{ℕ, ◌≤◌, ◌≡◌, List, length, drop}

-- s is the end of d, from r on
pub record Tail (d : List ℕ) (r : ℕ) (s : List ℕ) : Type 0 where
  pub inside : r ≤ length d
  pub is : drop r d ≡ s
