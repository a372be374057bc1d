-- An element's octets are appended one field after the other, and its length follows from that of its contents.
-- Assumes nothing.
use Prim.Native.Nat.{ℕ, suc, ◌+◌, ◌/◌, ◌%◌, ◌≤◌, ◌<◌}
use mathlib.Core.Path.{◌≡◌}
use mathlib.Core.List.{List, [], ◌∷◌}
use lib.ListN.{length}
use native.Mathlib.Numerals.{add-one}
use native.Mathlib.Omega.{arith}
use borrow.Author.Tests.{lt-ltb, le-ltb}
use Rattle.octets.specs.Append.{Appends}
use Rattle.octets.proofs.AppendLaws.{append_then}
use Rattle.octets.proofs.CaseLaws.{by_lt}
use Rattle.bat.specs.Writing.{size_text, element_text}
use Rattle.bat_write.specs.Private.{element_length}

module _ (l f : List ℕ) (at r : ℕ) where
  pub size_one : (n : ℕ) → Appends l at ((128 + n) ∷ []) r f → n < 128 → Appends l at (size_text n) r f
  unfolding size_text
  size_one n p h = rw (lt-ltb n 128 h) p

  module _ (g : List ℕ) (k : ℕ) where
    pub size_two : (n : ℕ) → Appends g k ((128 + n / 128) ∷ []) r f → Appends l at (n % 128 ∷ []) k g → 128 ≤ n → Appends l at (size_text n) r f
    unfolding size_text
    size_two n q p h = rw (le-ltb n 128 h) (append_then l g f (n % 128 ∷ []) ((128 + n / 128) ∷ []) at k r q p)

    pub element_then : (i c : ℕ) (s : List ℕ) → Appends g k ((128 + c) ∷ s) r f → Appends l at (i ∷ size_text (length s + 1)) k g → Appends l at (element_text i c s) r f
    unfolding element_text
    element_then i c s q p =
        let z : Appends l at (i ∷ size_text (suc (length s))) k g = rw add-one at p in
        append_then l g f (i ∷ size_text (suc (length s))) ((128 + c) ∷ s) at k r q z

pub length_element : (i c : ℕ) (s : List ℕ) → length (element_text i c s) ≡ element_length (length s)
unfolding element_text size_text element_length
length_element i c s =
    by_lt (length s) 127 _
    (λ h. rw (lt-ltb (suc (length s)) 128 (omega arith), lt-ltb (length s) 127 h) (omega arith))
    (λ h. rw (le-ltb (suc (length s)) 128 (omega arith), le-ltb (length s) 127 h) (omega arith))
