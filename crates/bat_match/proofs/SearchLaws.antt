-- A search through a list, codec by codec: those passed over are other codecs, so the ones from the place on decide.
-- Assumes nothing.
use Prim.Native.Nat.{ℕ, ◌+◌, ◌≤◌}
use mathlib.Core.Path.{◌≡◌, refl, sym, ap, ◌∙◌}
use mathlib.Core.Option.{Option-elim}
use mathlib.Core.Bool.{Bool, true, false}
use mathlib.Core.List.{List, [], ◌∷◌}
use lib.ListN.{length, drop, length-drop, drop_of_length-le}
use native.Mathlib.Omega.{arith}
use borrow.Author.Tests.{lt-ltb, le-ltb}
use Rattle.std.specs.Prelude.{Result, Ok, Err}
use Rattle.octets.specs.declared.Refusal.{Refusal}
use Rattle.octets.specs.declared.Refusal.TheVariants.{NoCommonCodec}
use Rattle.octets.specs.declared.Span.{Span}
use Rattle.octets.proofs.CaseLaws.{by_le}
use Rattle.bat.specs.Framing.{whole}
use Rattle.bat.proofs.WalkLaws.{front_nil, front_length, front_whole, by_front}
use Rattle.bat_match.specs.Matching.{PlacedCodec, placed_codecs, CodecList, codec_octets, has_octets, common, first_of, match_of}
use Rattle.bat_match.specs.Meaning.{choice_of}
use Rattle.bat_match.specs.Private.{all_singles, codecs_at, CodecAt, FoundAt, FirstCommon, starting_before}
use Rattle.bat_match.proofs.CodecLaws.{placed_ended, placed_unframed, placed_first}

-- ---- where the codecs of a list start
-- at its first place or later
pub none_from : (s : List ℕ) (d n : ℕ) → n ≤ d → starting_before n (placed_codecs d s) ≡ []
unfolding starting_before
none_from =
    by_front (λ (s : List ℕ). (d n : ℕ) → n ≤ d → starting_before n (placed_codecs d s) ≡ [])
    (λ d n h. rw (placed_ended d [] front_nil))
    (λ s q d n h. rw (placed_unframed d s q))
    (λ s e t q ih d n h. rw (placed_first d s e t q, le-ltb d n h, ih (d + length (whole e)) n (omega arith)))

-- before its end
all_from : (s : List ℕ) (d n : ℕ) → d + length s ≤ n → starting_before n (placed_codecs d s) ≡ placed_codecs d s
unfolding starting_before
all_from =
    by_front (λ (s : List ℕ). (d n : ℕ) → d + length s ≤ n → starting_before n (placed_codecs d s) ≡ placed_codecs d s)
    (λ d n h. rw (placed_ended d [] front_nil))
    (λ s q d n h. rw (placed_unframed d s q))
    (λ s e t q ih d n h.
    let l = front_length s e t q in
    let w = front_whole s e t q in
    rw (placed_first d s e t q, lt-ltb d n (omega arith), ih (d + length (whole e)) n (omega arith)))

pub none_left : (s : List ℕ) (at : ℕ) → length s ≤ at → codecs_at s at ≡ []
none_left s at h = rw (drop_of_length-le s {i = at} h) (placed_ended at [] front_nil)

pub all_before : (s : List ℕ) (d : ℕ) → starting_before (length s) (codecs_at s d) ≡ codecs_at s d
unfolding starting_before
all_before s d =
    by_le (length s) d _
    (λ h. rw (none_left s d h))
    (λ h. all_from (drop d s) d (length s) (omega (arith, length-drop d s)))

-- ---- the first codec in both lists: those from a place of s on have as many in os as all of them
module _ (s : List ℕ) (from : ℕ) (os : List PlacedCodec) (at : ℕ) (inv : common (codecs_at s at) os ≡ common (codecs_at s from) os) where
  none_common : length s ≤ at → common (codecs_at s at) os ≡ []
  unfolding common
  none_common h = rw (none_left s at h)

  pub common_end : length s ≤ at → FirstCommon s from os (Err NoCommonCodec)
  unfolding FirstCommon first_of
  common_end h = record { is = ap first_of (sym inv ∙ none_common h); refusal = refl }

  module _ (n : ℕ) (u : List ℕ) (c : CodecAt s at n u) where
    has_it : (b : Bool) → b ≡ has_octets u os → has_octets (codec_octets c.codec) os ≡ b
    has_it b p = sym (p ∙ ap (λ (t : List ℕ). has_octets t os) c.reads)

    here_common : true ≡ has_octets u os → common (codecs_at s at) os ≡ c.codec ∷ common (codecs_at s (at + n)) os
    unfolding common
    here_common p = rw (c.are, has_it true p)

    pub common_here : all_singles (drop at s) ≡ true → true ≡ has_octets u os → FirstCommon s from os (Ok (record { at = at; len = n }))
    unfolding FirstCommon first_of
    common_here singles p =
        record {
          codec = c.codec;
          is = ap first_of (sym inv ∙ here_common p);
          place = rw (c.starts, c.length_is);
          here = record { inside = omega (arith, c.some, c.within); singles = singles; shared = λ d ds e. let q : c.codec ≡ d = cc c.are in rw (← q) (has_it true p) };
          enough = inv;
        }

    pub common_on : false ≡ has_octets u os → common (codecs_at s (at + n)) os ≡ common (codecs_at s from) os
    unfolding common
    common_on p = sym (rw (c.are, has_it false p)) ∙ inv

-- what is found is the choice of the match
pub first_is : (s : List ℕ) (from : ℕ) (os : List PlacedCodec) (l : CodecList) (r : Result Span Refusal) → FirstCommon s from os r → r ≡ choice_of (match_of l (common (codecs_at s from) os))
unfolding FirstCommon match_of choice_of Option-elim
first_is s from os l (Ok p) f = rw f.is (ap Ok (sym f.place))
first_is s from os l (Err n) f = rw f.is (ap Err f.refusal)

pub found_at : (s : List ℕ) (from : ℕ) (os : List PlacedCodec) (r : Result Span Refusal) → FirstCommon s from os r → (p : Span) → r ≡ Ok p → FoundAt s from os p
unfolding FirstCommon
found_at s from os r f p e = rw e at f
