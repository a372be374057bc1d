-- The first LF of a text, as the kit's search finds it, ends what is before it.
-- Assumes nothing.
use Prim.Native.Nat.{ℕ, zero, suc, ◌<◌}
use mathlib.Core.Path.{◌≡◌, refl, ap}
use mathlib.Core.List.{List, [], ◌∷◌}
use lib.ListN.{length}
use native.Mathlib.Omega.{arith}
use borrow.Author.Tests.{eqb-true, eq-eqb}
use Rattle.memchr.specs.Find.{is_byte, Nowhere, Passes}
use Rattle.octets.specs.Split.{before}
use Rattle.octets.proofs.SplitLaws.{before_here, before_more}

-- the octet at the front is passed
passed : (b : ℕ) (bs : List ℕ) (n : ℕ) → 0 < n → Nowhere (Passes (is_byte 10) (b ∷ bs)) 0 n → before 10 (b ∷ bs) ≡ b ∷ before 10 bs
passed b bs n h f = before_more 10 b bs (λ e. f 0 (omega arith) h (eq-eqb b 10 e))

pub before_none : (s : List ℕ) → Nowhere (Passes (is_byte 10) s) 0 (length s) → length (before 10 s) ≡ length s
unfolding before
before_none [] f = refl
before_none (b ∷ bs) f =
    rw (passed b bs (length (b ∷ bs)) (omega arith) f)
    (ap suc (before_none bs (λ k l h q. f (suc k) (omega arith) (omega arith) q)))

pub before_some : (s : List ℕ) (k : ℕ) → k < length s → Nowhere (Passes (is_byte 10) s) 0 k → Passes (is_byte 10) s k → length (before 10 s) ≡ k
before_some [] k h f p = absurd (omega arith)
before_some (b ∷ bs) zero h f p = rw (before_here 10 b bs (eqb-true b 10 p))
before_some (b ∷ bs) (suc k) h f p =
    rw (passed b bs (suc k) (omega arith) f)
    (ap suc (before_some bs k (omega arith) (λ j l g q. f (suc j) (omega arith) (omega arith) q) p))
