-- What the theorems on a match say, in terms of the two lists (`proofs/Promises.antt`).
use Rattle.std.specs.Prelude.{ℕ, ◌≤◌, ◌≡◌, Bool, true, false, not, ◌&&◌, length, drop}
use mathlib.Core.List.{List, [], ◌∷◌, ◌++◌, map, Memᴰ, Sublistᴰ}
use Rattle.std.proofs.Math.Option.{some}
use Rattle.bat.specs.Framing.{Element, front, first, elements, most_octets}
use Rattle.bat.specs.Values.{codecs, is_single}
use Rattle.bat.specs.Back.{ReadBack}
use Rattle.bat_write.specs.Back.{ElementBack}
use Rattle.bat_match.specs.Matching.{PlacedCodec, placed_codec, CodecList, is_codec_list, codec_list_of, has_codec, Match, reduced_text, matched, matching}

-- the string s is the list l and nothing else
pub record IsList (s : List ℕ) (l : CodecList) : Type 0 where
  pub short : length s ≤ most_octets
  pub element : Element
  pub only : elements s ≡ some (element ∷ [])
  pub decoded : is_codec_list element ≡ true
  pub gives : codec_list_of element ≡ l

-- ---- codecs in both lists
-- no codec of xs is in ys
abbrev pub NoneIn : List PlacedCodec → List PlacedCodec → Type 0
NoneIn ys xs = (c : PlacedCodec) → Memᴰ c xs → has_codec c ys ≡ false

-- c is in ys, and is the first codec of xs that is
pub record FirstInBoth (xs ys : List PlacedCodec) (c : PlacedCodec) : Type 0 where
  pub before : List PlacedCodec
  pub after : List PlacedCodec
  pub lies : xs ≡ before ++ (c ∷ after)
  pub shared : has_codec c ys ≡ true
  pub earliest : NoneIn ys before

-- c is in xs, and is no repeat of a codec before it
pub record NoRepeat (xs : List PlacedCodec) (c : PlacedCodec) : Type 0 where
  pub before : List PlacedCodec
  pub after : List PlacedCodec
  pub lies : xs ≡ before ++ (c ∷ after)
  pub new : has_codec c before ≡ false

-- no codec of cs is there twice
unfoldable pub distinct : List PlacedCodec → Bool
distinct [] = true
distinct (c ∷ cs) = not (has_codec c cs) && distinct cs

-- rs has every codec that is in both xs and ys, once, where it is first in xs, in the order of xs, and nothing else
pub record InBoth (xs ys rs : List PlacedCodec) : Type 0 where
  pub exactly : (c : PlacedCodec) → has_codec c rs ≡ (has_codec c xs && has_codec c ys)
  pub once : distinct rs ≡ true
  pub firsts : (c : PlacedCodec) → Memᴰ c rs → NoRepeat xs c
  pub ordered : Sublistᴰ rs xs

-- ---- the match
-- at its place in the string s is the codec's whole element
pub record ElementAt (s : List ℕ) (c : PlacedCodec) : Type 0 where
  pub element : Element
  pub rest : List ℕ
  pub fronts : front (drop c.start s) ≡ first element rest
  pub single : is_single element ≡ true
  pub is : c ≡ placed_codec c.start element

-- the strings s, which leads, and t are lists with the match m
pub record MatchIs (s t : List ℕ) (m : Match) : Type 0 where
  pub leading : CodecList
  pub other : CodecList
  pub leads : IsList s leading
  pub follows : IsList t other
  -- the chosen codec, and its octets in s
  pub chosen : FirstInBoth leading.codecs other.codecs m.chosen
  pub placed : ElementAt s m.chosen
  -- the reduced list begins with it
  pub later : List PlacedCodec
  pub reduced : m.reduced ≡ map (λ (c : PlacedCodec). c.codec) (m.chosen ∷ later)
  pub in_both : InBoth leading.codecs other.codecs (m.chosen ∷ later)
  pub compatibility : m.compatibility ≡ leading.compatibility
  -- it is never longer than the leading list, and its octets are read back as it, whatever follows
  pub no_longer : length (reduced_text m) ≤ length s
  pub back : (rest : List ℕ) → ReadBack m.compatibility (codecs m.reduced) rest

-- if the other string leads, the two are matched too, and the reduced list has the same codecs
pub record Swapped (s t : List ℕ) (m : Match) : Type 0 where
  pub swapped : Match
  pub result : matching t s ≡ matched swapped
  pub this : MatchIs s t m
  pub that : MatchIs t s swapped
  pub same_codecs : (c : PlacedCodec) → has_codec c (m.chosen ∷ this.later) ≡ has_codec c (swapped.chosen ∷ that.later)

-- at the front of f, in n octets, is an element that is decoded as the reduced list of s and t
pub record ReducedBack (s t : List ℕ) (n : ℕ) (f : List ℕ) : Type 0 where
  pub match : Match
  pub result : matching s t ≡ matched match
  pub back : ElementBack (codecs match.reduced) match.compatibility n f
