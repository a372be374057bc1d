-- Private: used only by private functions of this crate. The codecs of a list from a place on, and a string by itself.
use Rattle.std.specs.Prelude.{ℕ, ◌+◌, ◌≤◌, ◌<◌, ◌≡◌, List, [], ◌∷◌, ◌++◌, true, not, ◌&&◌, cond, length, drop, ltb, Result, Ok, Err}
use Rattle.std.proofs.Math.Option.{none, some, Option-elim}
use Rattle.octets.specs.declared.Span.{Span}
use Rattle.octets.specs.declared.Refusal.{Refusal}
use Rattle.octets.specs.declared.Refusal.TheVariants.{DataTooLong, Unframed, NoCodecList, NoCommonCodec}
use Rattle.octets.specs.Refusals.{refusal_number}
use Rattle.octets.specs.Puts.{bounded}
use Rattle.bat.specs.Framing.{Element, elements, most_octets}
use Rattle.bat.specs.Values.{meant}
use Rattle.bat.specs.Writing.{element_text, bit_text}
unfoldable pub use Rattle.bat_match.specs.Singles.{all_singles}
use Rattle.bat_match.specs.declared.list.FramedList.{FramedList}
use Rattle.bat_match.specs.Matching.{PlacedCodec, placed_codecs, CodecList, only_list, codec_octets, has_octets, has_codec, common, first_of, MatchResult, refused, match_of, matching}
use Rattle.bat_match.specs.Meaning.{place_of, reduced_answer, reduced_leaves}

-- ---- the codecs of a list from a place on
-- the codecs of the string s from d on
abbrev pub codecs_at : List ℕ → ℕ → List PlacedCodec
codecs_at s d = placed_codecs d (drop d s)

-- at a place of s is a codec whose element has n octets and the contents u; those after it begin where it ends
pub record CodecAt (s : List ℕ) (at n : ℕ) (u : List ℕ) : Type 0 where
  pub codec : PlacedCodec
  pub starts : codec.start ≡ at
  pub length_is : codec.length ≡ n
  pub some : 1 ≤ n
  pub within : at + n ≤ length s
  pub reads : u ≡ codec_octets codec
  pub rest : all_singles (drop (at + n) s) ≡ true
  pub are : codecs_at s at ≡ codec ∷ codecs_at s (at + n)

-- at a place of s is a codec that is among os too, and only single codecs follow
pub record SharedAt (s : List ℕ) (at : ℕ) (os : List PlacedCodec) : Type 0 where
  pub inside : at < length s
  pub singles : all_singles (drop at s) ≡ true
  pub shared : (c : PlacedCodec) (cs : List PlacedCodec) → codecs_at s at ≡ c ∷ cs → has_codec c os ≡ true

-- p is the place of the first codec of s, from `from` on, that is among os too; so the codecs from there on are enough
pub record FoundAt (s : List ℕ) (from : ℕ) (os : List PlacedCodec) (p : Span) : Type 0 where
  pub codec : PlacedCodec
  pub is : first_of (common (codecs_at s from) os) ≡ some codec
  pub place : place_of codec ≡ p
  pub here : SharedAt s p.at os
  pub enough : common (codecs_at s p.at) os ≡ common (codecs_at s from) os

-- there is none
pub record NoneFound (s : List ℕ) (from : ℕ) (os : List PlacedCodec) (e : Refusal) : Type 0 where
  pub is : first_of (common (codecs_at s from) os) ≡ none
  pub refusal : e ≡ NoCommonCodec

unfoldable pub FirstCommon : List ℕ → ℕ → List PlacedCodec → Result Span Refusal → Type 0
FirstCommon s from os (Ok p) = FoundAt s from os p
FirstCommon s from os (Err e) = NoneFound s from os e

-- those of cs that start before n
unfoldable pub starting_before : ℕ → List PlacedCodec → List PlacedCodec
starting_before n [] = []
starting_before n (c ∷ cs) = cond (ltb c.start n) (c ∷ starting_before n cs) (starting_before n cs)

-- ---- the codecs of the reduced list
-- 1 if a codec with the octets t is in it: the other list has it, and the codecs before it have not
abbrev pub flag_of : List ℕ → List PlacedCodec → List PlacedCodec → ℕ
flag_of t before other = bit_text (has_octets t other && not (has_octets t before))

-- a flag for each of cs, which come after the codecs `before`
unfoldable pub selection_after : List PlacedCodec → List PlacedCodec → List PlacedCodec → List ℕ
selection_after before [] other = []
selection_after before (c ∷ cs) other = flag_of (codec_octets c) before other ∷ selection_after (before ++ (c ∷ [])) cs other

-- writing the reduced list into the buffer l answers r and leaves f in it
pub record Writes (x : MatchResult) (l : List ℕ) (r : Result ℕ Refusal) (f : List ℕ) : Type 0 where
  pub answers : r ≡ reduced_answer (length l) x
  pub leaves : f ≡ reduced_leaves l x

-- ---- one string
-- The list in it, or what refuses it by itself.
pub data Alone : Type 0 where
  refused_alone : Refusal → Alone
  list : CodecList → Alone

unfoldable pub alone : List ℕ → Alone
alone s =
    Option-elim (bounded most_octets s) (refused_alone DataTooLong) (λ (t : List ℕ).
    Option-elim (elements t) (refused_alone Unframed) (λ es.
    Option-elim (only_list es) (refused_alone NoCodecList) list))

-- it can be framed, and has at most one element
pub record OneAtMost (s : List ℕ) : Type 0 where
  pub short : length s ≤ most_octets
  pub found : List Element
  pub are : elements s ≡ some found
  pub single : length found ≤ 1

-- the list that the code's l stands for in s
abbrev pub list_in : List ℕ → FramedList → CodecList
list_in s l = record { compatibility = meant l.compatibility; codecs = codecs_at s l.from }

-- l is the list in s
pub record ListIs (s : List ℕ) (l : FramedList) : Type 0 where
  pub string : l.string.now ≡ s
  pub is : alone s ≡ list (list_in s l)
  pub singles : all_singles (drop l.from s) ≡ true
  pub short : length s ≤ most_octets
  -- an element with no more contents has no more octets than s
  pub fits : (i c : ℕ) (x : List ℕ) → length x ≤ length (drop l.from s) → length (element_text i c x) ≤ length s

unfoldable pub OneListIs : List ℕ → Result FramedList Refusal → Type 0
OneListIs s (Ok l) = ListIs s l
OneListIs s (Err e) = alone s ≡ refused_alone e

-- ---- two strings
-- the one with the lower number
abbrev pub lower : Refusal → Refusal → Refusal
lower d e = cond (ltb (refusal_number e) (refusal_number d)) e d

-- two strings are refused by the lower of their numbers
unfoldable pub paired : Alone → Alone → MatchResult
paired (list l) (list o) = match_of l (common l.codecs o.codecs)
paired (list l) (refused_alone e) = refused e
paired (refused_alone d) (list o) = refused d
paired (refused_alone d) (refused_alone e) = refused (lower d e)

pub record ListsAre (s t : List ℕ) (l o : FramedList) : Type 0 where
  pub first : ListIs s l
  pub second : ListIs t o

unfoldable pub TwoListsAre : List ℕ → List ℕ → Result (FramedList × FramedList) Refusal → Type 0
TwoListsAre s t (Ok (l, o)) = ListsAre s t l o
TwoListsAre s t (Err e) = matching s t ≡ refused e
