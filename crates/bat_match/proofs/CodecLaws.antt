-- The codecs of a list go from one to the next: what is at a place of single codecs is one of them, and those after it begin
-- where it ends.
-- Assumes nothing.
use Prim.Native.Nat.{ℕ, ◌+◌, ◌*◌, ◌≤◌}
use mathlib.Core.Path.{◌≡◌, sym, ◌∙◌}
use mathlib.Core.List.{List, [], ◌∷◌, map}
use mathlib.Core.Bool.{true, false, ◌&&◌, and-eq-true_iff}
use lib.ListN.{length}
use native.Mathlib.Omega.{arith}
use Rattle.bat.specs.Framing.{Element, whole, front, first, unframed, ended, walk}
use Rattle.bat.specs.Values.{InnerCodec, inner_codec, all_codecs, offence, with_single, is_single, codec_then, codecs_in}
use Rattle.bat.specs.Writing.{codec_text}
use Rattle.bat.proofs.WalkLaws.{front_nil, front_whole, front_length, walk_ended, walk_unframed, walk_first, fold_ended, fold_unframed, fold_first, by_front}
use Rattle.bat.proofs.DecodedLaws.{codec_then_all}
use Rattle.bat_write.proofs.CodecLaws.{codec_text_lem, single_right}
use Rattle.bat_match.specs.Matching.{PlacedCodec, placed_codec, placed_codecs}
use Rattle.bat_match.specs.Private.{all_singles}

-- ---- from one element to the next
module _ (s : List ℕ) where
  singles_ended : front s ≡ ended → all_singles s ≡ true
  unfolding all_singles
  singles_ended q = fold_ended (λ e b. is_single e && b) false true s q

  pub singles_unframed : front s ≡ unframed → all_singles s ≡ false
  unfolding all_singles
  singles_unframed q = fold_unframed (λ e b. is_single e && b) false true s q

  pub singles_first : (e : Element) (t : List ℕ) → front s ≡ first e t → all_singles s ≡ (is_single e && all_singles t)
  unfolding all_singles
  singles_first e t q = fold_first (λ e b. is_single e && b) false true s e t q

module _ (d : ℕ) (s : List ℕ) where
  pub placed_ended : front s ≡ ended → placed_codecs d s ≡ []
  unfolding placed_codecs
  placed_ended q = walk_ended (λ e at cs. placed_codec at e ∷ cs) (λ at. []) [] d s q

  pub placed_unframed : front s ≡ unframed → placed_codecs d s ≡ []
  unfolding placed_codecs
  placed_unframed q = walk_unframed (λ e at cs. placed_codec at e ∷ cs) (λ at. []) [] d s q

  pub placed_first : (e : Element) (t : List ℕ) → front s ≡ first e t → placed_codecs d s ≡ placed_codec d e ∷ placed_codecs (d + length (whole e)) t
  unfolding placed_codecs
  placed_first e t q = walk_first (λ e at cs. placed_codec at e ∷ cs) (λ at. []) [] d s e t q

-- ---- a decoded codec list
-- s is the codecs cs: all its elements are single codecs, and placed from d on they are cs
pub record Decoded (s : List ℕ) (d : ℕ) (cs : List InnerCodec) : Type 0 where
  pub singles : all_singles s ≡ true
  pub codecs : map (λ (c : PlacedCodec). c.codec) (placed_codecs d s) ≡ cs

decoded_from : (s : List ℕ) (k d : ℕ) (cs : List InnerCodec) → walk codec_then offence (all_codecs []) k s ≡ all_codecs cs → Decoded s d cs
unfolding codec_then
decoded_from =
    by_front (λ (s : List ℕ). (k d : ℕ) (cs : List InnerCodec) → walk codec_then offence (all_codecs []) k s ≡ all_codecs cs → Decoded s d cs)
    (λ k d cs p.
    let w = walk_ended codec_then offence (all_codecs []) k [] front_nil in
    let q : ◌≡◌ {A = List InnerCodec} [] cs = cc in
    rw (← q) (record { singles = singles_ended [] front_nil; codecs = rw (placed_ended d [] front_nil) }))
    (λ s q k d cs p. absurd (let w = walk_unframed codec_then offence (all_codecs []) k s q in let z : ◌≡◌ {A = ℕ} 0 1 = cc in omega arith))
    (λ s e t q ih k d cs p.
    let w = walk_first codec_then offence (all_codecs []) k s e t q in
    let (r, is, rest, all) = codec_then_all (is_single e) (inner_codec e) k (walk codec_then offence (all_codecs []) (k + length (whole e)) t) cs (sym w ∙ p) in
    let others = ih (k + length (whole e)) (d + length (whole e)) r rest in
    rw (← all) (record { singles = singles_first s e t q ∙ rw (is, others.singles); codecs = rw (placed_first d s e t q, others.codecs) }))

pub decoded_codecs : (s : List ℕ) (d : ℕ) (cs : List InnerCodec) → codecs_in s ≡ all_codecs cs → Decoded s d cs
unfolding codecs_in
decoded_codecs s d cs p = decoded_from s 0 d cs p

-- and the other way round
singles_from : (s : List ℕ) (k d : ℕ) → all_singles s ≡ true → walk codec_then offence (all_codecs []) k s ≡ all_codecs (map (λ (c : PlacedCodec). c.codec) (placed_codecs d s))
unfolding codec_then with_single
singles_from =
    by_front (λ (s : List ℕ). (k d : ℕ) → all_singles s ≡ true → walk codec_then offence (all_codecs []) k s ≡ all_codecs (map (λ (c : PlacedCodec). c.codec) (placed_codecs d s)))
    (λ k d h. walk_ended codec_then offence (all_codecs []) k [] front_nil ∙ rw (placed_ended d [] front_nil))
    (λ s q k d h. absurd (let n = singles_unframed s q in let z : true ≡ false = cc in let y : ◌≡◌ {A = ℕ} 0 1 = cc in omega arith))
    (λ s e t q ih k d h.
    let (single, rest) = (and-eq-true_iff (is_single e) (all_singles t)).0 (sym (singles_first s e t q) ∙ h) in
    walk_first codec_then offence (all_codecs []) k s e t q ∙ rw (single, ih (k + length (whole e)) (d + length (whole e)) rest, placed_first d s e t q))

pub singles_codecs : (s : List ℕ) (d : ℕ) → all_singles s ≡ true → codecs_in s ≡ all_codecs (map (λ (c : PlacedCodec). c.codec) (placed_codecs d s))
unfolding codecs_in
singles_codecs s d h = singles_from s 0 d h

-- an element has at least three octets
pub few_codecs : (s : List ℕ) (d : ℕ) → 3 * length (placed_codecs d s) ≤ length s
few_codecs =
    by_front (λ (s : List ℕ). (d : ℕ) → 3 * length (placed_codecs d s) ≤ length s)
    (λ d. rw (placed_ended d [] front_nil) (omega arith))
    (λ s q d. rw (placed_unframed d s q) (omega arith))
    (λ s e t q ih d. rw (placed_first d s e t q) (omega (arith, ih (d + length (whole e)), front_length s e t q, front_whole s e t q)))

-- ---- the codec at a place
-- a single codec's contents are the octets that it is compared by
pub single_octets : (d : ℕ) (e : Element) → is_single e ≡ true → codec_text (placed_codec d e).codec.codec ≡ e.contents
single_octets d e p = codec_text_lem e.contents (single_right e p)
