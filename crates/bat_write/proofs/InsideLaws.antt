-- A value whose spans are all inside the source means what is in them, and any other means nothing.
-- Assumes nothing.
use Prim.Native.Nat.{ℕ}
use mathlib.Core.Path.{◌≡◌, sym, ◌∙◌}
use mathlib.Core.List.{List}
use mathlib.Core.Bool.{Bool, true, false}
use Rattle.bat_write.specs.Code as code
use Rattle.std.specs.Prelude.{Result, Err}
use Rattle.octets.specs.declared.Refusal.{Refusal}
use Rattle.octets.specs.declared.Refusal.TheVariants.{OutOfRange}
use Rattle.octets.specs.Puts.{Puts}
use Rattle.bat.specs.Writing.{element_octets_in}
use Rattle.octets.proofs.PutsLaws.{puts_none}
use Rattle.bat.specs.ValueMeaning.{value_inside, value_by, value_in}

pub inside_of : (s : List ℕ) (v w : code.Value) (b : Bool) → v ≡ w → b ≡ value_inside s w → b ≡ value_inside s v
inside_of s v w b e r = rw e r

module _ (s : List ℕ) (v : code.Value) (b : Bool) (is : b ≡ value_inside s v) (c : ℕ) (l : List ℕ) where
  pub inside_writes : b ≡ true → (r : Result ℕ Refusal) (f : List ℕ) → Puts (element_octets_in c (value_by s v)) l r f → Puts (element_octets_in c (value_in s v)) l r f
  unfolding value_in
  inside_writes h r f p = let y : value_inside s v ≡ true = sym is ∙ h in rw y p

  pub inside_none : b ≡ false → Puts (element_octets_in c (value_in s v)) l (Err OutOfRange) l
  unfolding value_in element_octets_in
  inside_none h = let n : value_inside s v ≡ false = sym is ∙ h in rw n (puts_none l)
