-- Octets that wait go to what was written, in their order: none is lost, and none comes anew.
use Rattle.std.specs.Prelude.{◌≡◌, ℕ, List, ◌++◌, ⊤}
use Rattle.std.specs.declared.option.Option.{Option}
use Rattle.std.specs.declared.option.Option.TheVariants.{None, Some}

-- `before` and `after` are what waits. Where the writer does not say what it holds, this says nothing.
abbrev pub Moves : Option (List ℕ) → Option (List ℕ) → List ℕ → List ℕ → Type 0
Moves None new before after = ⊤
Moves (Some xs) None before after = ⊥
Moves (Some xs) (Some ys) before after = ys ++ after ≡ xs ++ before
