-- The octets of an element are written at the front of a buffer if they are not too many and fit: its length decides both.
-- Assumes nothing.
use Prim.Native.Nat.{ℕ, ◌≤◌, ◌<◌}
use mathlib.Core.Path.{◌≡◌, sym, ◌∙◌}
use mathlib.Core.List.{List}
use mathlib.Core.Option.{some, none}
use lib.ListN.{length}
use native.Mathlib.Omega.{arith}
use borrow.Author.Tests.{lt-ltb, le-ltb, le-leb, lt-leb}
use Rattle.octets.specs.Append.{Appends}
use Rattle.octets.proofs.PutsLaws.{puts_none, puts_short, puts_all}
use Rattle.octets.proofs.CaseLaws.{by_lt}
use Rattle.std.specs.Prelude.{Ok, Err}
use Rattle.octets.specs.declared.Refusal.TheVariants.{BufferTooShort, OutOfRange}
use Rattle.octets.specs.Puts.{bounded, Puts}
use Rattle.bat.specs.Writing.{element_text}
use Rattle.bat.specs.Framing.{most_octets}
use Rattle.bat_write.specs.Private.{element_length}
use Rattle.bat_write.proofs.ElementLaws.{length_element}

-- at most 2,048 octets in all are at most 2,044 of contents
few_octets : (n : ℕ) → n ≤ 2044 → element_length n ≤ most_octets
unfolding element_length
few_octets n h = by_lt n 127 _ (λ k. rw (lt-ltb n 127 k) (omega arith)) (λ k. rw (le-ltb n 127 k) (omega arith))

many_octets : (n : ℕ) → 2044 < n → most_octets < element_length n
unfolding element_length
many_octets n h = rw (le-ltb n 127 (omega arith)) (omega arith)

module _ (i c : ℕ) (s l : List ℕ) where
  pub too_long : 2044 < length s → bounded most_octets (element_text i c s) ≡ none
  unfolding bounded
  too_long h = rw (lt-leb (length (element_text i c s)) most_octets (omega (arith, length_element i c s, many_octets (length s) h)))

  not_long : length s ≤ 2044 → bounded most_octets (element_text i c s) ≡ some (element_text i c s)
  unfolding bounded
  not_long h = rw (le-leb (length (element_text i c s)) most_octets (omega (arith, length_element i c s, few_octets (length s) h)))

  pub puts_long : 2044 < length s → Puts (bounded most_octets (element_text i c s)) l (Err OutOfRange) l
  puts_long h = rw (too_long h) (puts_none l)

  module _ (w : ℕ) (e : w ≡ element_length (length s)) (h : length s ≤ 2044) where
    pub puts_little : length l < w → Puts (bounded most_octets (element_text i c s)) l (Err BufferTooShort) l
    puts_little k = rw (not_long h) (puts_short (element_text i c s) l (omega (arith, length_element i c s)))

    pub puts_whole : (r : ℕ) (f : List ℕ) → Appends l 0 (element_text i c s) r f → w ≤ length l → Puts (bounded most_octets (element_text i c s)) l (Ok w) f
    puts_whole r f p k =
        let t = element_text i c s in
        let n : length t ≡ w = length_element i c s ∙ sym e in
        let z = puts_all t l r f p (omega arith) in
        rw (not_long h) (rw n at z)

pub ruleset putting = (puts_long, puts_little, puts_whole)
