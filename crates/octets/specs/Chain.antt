-- A reading that stops at its first fault, step by step: each step takes the rest of the reading as its last argument, and a
-- fault gives `none`.
use Rattle.std.specs.Prelude.{ℕ, List, Bool, cond}
use Rattle.std.proofs.Math.Option.{Option, none}
use Rattle.octets.specs.Decimal.{read_number, on_number}

-- the rest, if b holds
abbrev pub when : {X : Type 0} → Bool → Option X → Option X
when b rest = cond b rest none

-- the rest, given the number that t stands for
abbrev pub number : {X : Type 0} → List ℕ → (ℕ → Option X) → Option X
number t rest = on_number (read_number t) rest none
