-- Laws of spans, and of fronts and ends of a slice: a test of the code says where the end of the slice cuts.
-- Assumes nothing.
use Prim.Native.Nat.{ℕ, ◌+◌, ◌-◌, ◌≤◌, ◌<◌}
use mathlib.Core.Path.{◌≡◌, sym, ◌∙◌}
use mathlib.Core.List.{List, []}
use mathlib.Core.Bool.{true, false}
use lib.ListN.{length, take, drop, length-drop, drop_of_length-le}
use lib.Seq.{take_all, take-nil}
use native.Mathlib.Omega.{arith}
use borrow.Author.Tests.{le-leb, lt-leb}
use Rattle.octets.specs.declared.Span.{Span}
use Rattle.octets.specs.Spans.{text_of, inside}
use Rattle.octets.proofs.Laws.{tail_is}

module _ (m : List ℕ) (sp : Span) where
  text_none : length m < sp.at → text_of m sp ≡ []
  unfolding text_of
  text_none h = rw (drop_of_length-le m {i = sp.at} (omega arith), take-nil sp.len)

  pub text_past : length m < sp.at → take 0 (drop 0 m) ≡ text_of m sp
  text_past h = sym (text_none h)

  pub text_cut : sp.at ≤ length m → length m - sp.at < sp.len → take (length m - sp.at) (drop sp.at m) ≡ text_of m sp
  unfolding text_of
  text_cut h k = tail_is m sp.at ∙ sym (take_all sp.len (drop sp.at m) (omega (arith, length-drop sp.at m)))

-- the span of all of s
pub text_all : (s : List ℕ) (n : ℕ) → n ≡ length s → text_of s (record { at = 0; len = n }) ≡ s
unfolding text_of
text_all s n e = take_all n s (omega arith)

-- ---- spans that lie inside
module _ (s : List ℕ) (p : Span) where
  pub inside_off : length s < p.at → false ≡ inside s p
  inside_off h = sym (lt-leb (p.at + p.len) (length s) (omega arith))

  pub inside_past : p.at ≤ length s → length s - p.at < p.len → false ≡ inside s p
  inside_past h k = sym (lt-leb (p.at + p.len) (length s) (omega arith))

  pub inside_yes : p.at ≤ length s → p.len ≤ length s - p.at → true ≡ inside s p
  inside_yes h k = sym (le-leb (p.at + p.len) (length s) (omega arith))

pub ruleset insides = (inside_off, inside_past, inside_yes)
