-- Document 02, E1: two codec lists matched. Each is given as a string of octets, and one of them leads: the card takes the
-- first codec of the leading list that the other list also has, and writes the list of all such codecs, each once. What an element is,
-- how octets are cut into elements and what a codec list is are defined in `Framing` and `Values` of `bat`.
use Rattle.std.specs.Prelude.{ℕ, List, [], ◌∷◌, map, Bool, true, false, ◌&&◌, ◌||◌, cond, length, eqb}
use Rattle.std.proofs.Math.Option.{Option, none, some, Option-elim}
use Rattle.octets.specs.declared.Refusal.{Refusal}
use Rattle.octets.specs.declared.Refusal.TheVariants.{DataTooLong, Unframed, NoCodecList, NoCommonCodec}
use Rattle.octets.specs.Chain.{when}
use Rattle.octets.specs.Puts.{bounded}
use Rattle.octets.specs.Words.{same}
use Rattle.bat.specs.Framing.{Element, header, whole, walk, elements, most_octets}
use Rattle.bat.specs.Values.{InnerCodec, inner_codec, codecs, Decoding, decoded, unrecognised, decoding, meant}
use Rattle.bat.specs.Writing.{codec_text, value_text}

-- ---- the codecs of a list
-- A codec of a list with its place in the string: where its identifier is, and the length of its whole element, with a
-- long length field and all its compatibility octets.
pub record PlacedCodec : Type 0 where
  pub start : ℕ
  pub length : ℕ
  pub codec : InnerCodec

abbrev pub placed_codec : ℕ → Element → PlacedCodec
placed_codec d e = record { start = d; length = length (whole e); codec = inner_codec e }

-- the codecs of a list with the contents s, which begin at d of the string
unfoldable pub placed_codecs : ℕ → List ℕ → List PlacedCodec
placed_codecs d s = walk (λ e at cs. placed_codec at e ∷ cs) (λ at. []) [] d s

-- ---- the list in a string
-- Its own compatibility (bits 7 to 1 of the first octet), and its codecs.
pub record CodecList : Type 0 where
  pub compatibility : ℕ
  pub codecs : List PlacedCodec

unfoldable pub is_decoded : Decoding → Bool
is_decoded (decoded v) = true
is_decoded (unrecognised p) = false

-- e is a codec list (identifier 4), and is decoded
unfoldable pub is_codec_list : Element → Bool
is_codec_list e = eqb e.identifier 4 && is_decoded (decoding e.identifier e.contents)

abbrev pub codec_list_of : Element → CodecList
codec_list_of e = record { compatibility = meant e.compatibility; codecs = placed_codecs (length (header e)) e.contents }

-- the list, if there is one element and it is a decoded codec list
unfoldable pub only_list : List Element → Option CodecList
only_list [] = none
only_list (e ∷ []) = when (is_codec_list e) (some (codec_list_of e))
only_list (e ∷ f ∷ es) = none

-- ---- codecs in both lists
-- what two codecs are compared by: the octets of organisation, type and configuration; compatibility is not compared
abbrev pub codec_octets : PlacedCodec → List ℕ
codec_octets c = codec_text c.codec.codec

-- one of cs has the octets t
unfoldable pub has_octets : List ℕ → List PlacedCodec → Bool
has_octets t [] = false
has_octets t (c ∷ cs) = same t (codec_octets c) || has_octets t cs

-- cs has the codec c, at whatever place
abbrev pub has_codec : PlacedCodec → List PlacedCodec → Bool
has_codec c cs = has_octets (codec_octets c) cs

-- the codecs of the leading list that the other list also has, in their order
unfoldable pub common : List PlacedCodec → List PlacedCodec → List PlacedCodec
common [] other = []
common (c ∷ cs) other = cond (has_codec c other) (c ∷ common cs other) (common cs other)

-- ds without the codecs that are the same as c
unfoldable pub without : PlacedCodec → List PlacedCodec → List PlacedCodec
without c [] = []
without c (d ∷ ds) = cond (same (codec_octets d) (codec_octets c)) (without c ds) (d ∷ without c ds)

-- cs without later repeats
unfoldable pub first_of_each : List PlacedCodec → List PlacedCodec
first_of_each [] = []
first_of_each (c ∷ cs) = c ∷ without c (first_of_each cs)

-- the first of cs, if there is one
unfoldable pub first_of : List PlacedCodec → Option PlacedCodec
first_of [] = none
first_of (c ∷ cs) = some c

-- ---- the match
-- The codec that is chosen, and the reduced list: the leading list's own compatibility, and each codec with its own.
pub record Match : Type 0 where
  pub chosen : PlacedCodec
  pub compatibility : ℕ
  pub reduced : List InnerCodec

-- The octets of the reduced list as the element writer writes it: shortest lengths, one compatibility octet with bit 8 set.
unfoldable pub reduced_text : Match → List ℕ
reduced_text m = value_text m.compatibility (codecs m.reduced)

-- Two strings are refused, or matched.
pub data MatchResult : Type 0 where
  refused : Refusal → MatchResult
  matched : Match → MatchResult

-- `rest` of what the two strings give; refused by r if either gives nothing
unfoldable pub both : {X : Type 0} → Refusal → Option X → Option X → (X → X → MatchResult) → MatchResult
both r none y rest = refused r
both r (some x) none rest = refused r
both r (some x) (some y) rest = rest x y

-- The match by the codecs cs of the leading list that the other list also has: the first is chosen. Number 15 if there is
-- none.
unfoldable pub match_of : CodecList → List PlacedCodec → MatchResult
match_of leading cs =
    Option-elim (first_of cs) (refused NoCommonCodec) (λ (c : PlacedCodec).
    matched (record { chosen = c; compatibility = leading.compatibility; reduced = map (λ (d : PlacedCodec). d.codec) (first_of_each cs) }))

-- Numbers 1, 2, 14 and 15, in this order; each is looked for in both strings before the next: 1 if one is too long, 2 if one
-- can't be framed, 14 if one is anything but a single decoded codec list, 15 if no codec is in both. Number 4 comes last, and
-- refuses only the writing (`reduced_answer` in `Meaning`).
unfoldable pub matching : List ℕ → List ℕ → MatchResult
matching leading other =
    both DataTooLong (bounded most_octets leading) (bounded most_octets other) (λ s t.
    both Unframed (elements s) (elements t) (λ es fs.
    both NoCodecList (only_list es) (only_list fs) (λ l o.
    match_of l (common l.codecs o.codecs))))
