-- Laws of the buffer that a line asks for: a tab is found in the line exactly where there is one, and the length comes before it.
-- Assumes nothing.
use Prim.Native.Nat.{ℕ, ◌+◌, ◌-◌, ◌≤◌, ◌<◌}
use mathlib.Core.Path.{◌≡◌, refl, sym, ap, ◌∙◌}
use mathlib.Core.List.{List}
use mathlib.Core.Bool.{Bool, true, false, and-false}
use mathlib.Core.Option.{Option-elim}
use lib.ListN.{length, take, drop, length-drop}
use lib.Seq.{drop-drop}
use native.Mathlib.Omega.{arith}
use Rattle.std.specs.Prelude as code
use Rattle.std.specs.Prelude.{Some, None, unwrap_or}
use Rattle.octets.specs.Decimal.{on_number}
use Rattle.octets.specs.Text.{tab}
use Rattle.octets.specs.Split.{has, before, find_at, Found}
use Rattle.octets.specs.Words.{begins}
use Rattle.octets.proofs.CaseLaws.{by_bool}
use Rattle.octets.proofs.SplitLaws.{part_is, has_before, has_not}
use Rattle.notation.specs.Notation.{length_in}
use Rattle.trace_read.specs.declared.Lent.{Lent as Place}
use Rattle.trace_read.specs.Lending.{usual, lent_after, or_usual, lent_in, usual_room, lend_word}
use Rattle.trace_read.specs.Meaning.{lent_by, lent_if}

-- ---- after the word and its tab; e is the next tab, or the end
module _ (s : List ℕ) (e : ℕ) (f : Found s tab 2 e) where
  tab_none : length s ≤ e → has tab (drop 2 s) ≡ false
  unfolding find_at
  tab_none h =
      by_bool (has tab (drop 2 s)) _
      (λ k. let i : e ≡ 2 + length (before tab (drop 2 s)) = f.is in absurd (omega (arith, i, has_before tab (drop 2 s) k, length-drop 2 s)))
      (λ k. k)

  tab_some : e < length s → has tab (drop 2 s) ≡ true
  unfolding find_at
  tab_some h =
      by_bool (has tab (drop 2 s)) _
      (λ k. k)
      (λ k. let i : e ≡ 2 + length (before tab (drop 2 s)) = f.is in absurd (omega (arith, i, ap (λ (z : List ℕ). length z) (has_not tab (drop 2 s) k), length-drop 2 s)))

  pub lend_open : length s ≤ e → lent_if s None ≡ lent_after (drop 2 s)
  unfolding lent_after lent_if
  lend_open h = rw (tab_none h)

  module _ (h : e < length s) (x : code.Option ℕ) (k : x ≡ length_in (take (e - 2) (drop 2 s))) where
    length_is : length_in (before tab (drop 2 s)) ≡ x
    length_is = ap length_in (sym (part_is s tab 2 e f.is)) ∙ sym k

    pub lend_bad : (r : code.Option Place) → x ≡ None → r ≡ None → lent_if s r ≡ lent_after (drop 2 s)
    unfolding lent_after lent_if on_number
    lend_bad r q u = rw (u, tab_some h, length_is, q)

    pub lend_value : (n : ℕ) → x ≡ Some n → lent_if s (Some (record { room = n; at = e + 1 })) ≡ lent_after (drop 2 s)
    unfolding lent_after on_number lent_if lent_by find_at
    lend_value n q =
        let i : e ≡ 2 + length (before tab (drop 2 s)) = f.is in
        let j : 2 + (length (before tab (drop 2 s)) + 1) ≡ e + 1 = omega arith in
        rw (tab_some h, length_is, q, drop-drop (length (before tab (drop 2 s)) + 1) 2 s, j)

pub ruleset lendings = (lend_open, lend_bad, lend_value)

-- ---- the line
-- what the code makes of an answer
or_place : (s : List ℕ) (x : code.Option Place) → lent_by s (unwrap_or x (record { room = usual_room; at = 0 })) ≡ or_usual s (lent_if s x)
unfolding lent_if lent_by usual Option-elim
or_place s (Some r) = refl
or_place s None = refl

module _ (s : List ℕ) (d : Bool) where
  pub lend_asked : (t : Bool) (x : code.Option Place) (r : Place) → t ≡ begins lend_word s → d ≡ true → t ≡ true → lent_if s x ≡ lent_after (drop 2 s)
      → r ≡ unwrap_or x (record { room = usual_room; at = 0 }) → lent_by s r ≡ lent_in d s
  unfolding lent_in
  lend_asked t x r e h q u k = rw (h, ← e, q, ← u, k) (or_place s x)

  pub lend_plain : d ≡ false → lent_by s (record { room = usual_room; at = 0 }) ≡ lent_in d s
  unfolding lent_in Option-elim lent_by usual
  lend_plain h = rw h

  pub lend_other : (t : Bool) → t ≡ begins lend_word s → t ≡ false → lent_by s (record { room = usual_room; at = 0 }) ≡ lent_in d s
  unfolding lent_in Option-elim lent_by usual
  lend_other t e q = rw (← e, q, and-false)

pub ruleset lends = (lend_asked, lend_plain, lend_other)
