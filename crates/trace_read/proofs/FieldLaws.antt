-- Laws of a line's fields: what reading a field gives, and how many fields there are.
-- Assumes nothing.
use Prim.Native.Nat.{ℕ, ◌+◌}
use mathlib.Core.Path.{◌≡◌, ap, ◌∙◌}
use mathlib.Core.List.{List}
use mathlib.Core.Bool.{Bool}
use lib.ListN.{length}
use native.Mathlib.Omega.{arith}
use Rattle.std.specs.Prelude as code
use Rattle.octets.specs.Decimal.{read_number}
use Rattle.octets.specs.Text.{tab}
use Rattle.octets.specs.Split.{split_on, separators_of}
use Rattle.octets.specs.Words.{same}
use Rattle.octets.proofs.SplitLaws.{split_some}

-- ---- reading a field, which is p
module _ (p q : List ℕ) (e : p ≡ q) where
  pub number_of : (r : code.Option ℕ) → r ≡ read_number p → r ≡ read_number q
  number_of r k = k ∙ ap read_number e

  pub word_of : (w : List ℕ) (r : Bool) → r ≡ same w p → r ≡ same w q
  word_of w r k = k ∙ ap (same w) e

pub ruleset on_fields = (number_of, word_of)

-- ---- one field more than there are tabs
pub fields_are : (s : List ℕ) (n : ℕ) → n ≡ separators_of tab s → length (split_on tab s) ≡ n + 1
unfolding separators_of
fields_are s n e = omega (arith, split_some tab s)
