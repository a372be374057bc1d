-- Laws of a configuration's entries: their number is the count, up to the array's length, and the entry at a position is the array's.
-- Assumes nothing.
use Prim.Native.Nat.{ℕ, zero, suc, ◌-◌, ◌≤◌, ◌<◌, min}
use mathlib.Core.Path.{◌≡◌, refl, sym, ap, ◌∙◌}
use mathlib.Core.List.{List, [], ◌∷◌, map}
use mathlib.Core.Bool.{Bool, ◌||◌, true≢false}
use mathlib.Core.Option.{none, some}
use lib.ListN.{length, get_or, take, length-map, length-take, get_or-map}
use lib.Dec.{ltb}
use lib.Seq.{get_or-take}
use native.Mathlib.Omega.{arith}
use borrow.Author.Tests.{lt-ltb, le-ltb}
use denote.Ref.{Bor}
use Rattle.std.specs.Prelude.{Option, Some, None, is_some, IfSome, option_copied, slice_get}
use Rattle.std.specs.List.{list_any}
use Rattle.std.proofs.lemmas.Option.{slice_get-get_or, slice_get_past}
use Rattle.octets.proofs.CaseLaws.{by_lt}
use Rattle.configuration.specs.declared.Codec.{Codec as Place}
use Rattle.configuration.specs.declared.Config.{Config}
use Rattle.configuration.specs.Configuration.{Codec, names, named_in, entry_in}
use Rattle.configuration.specs.Meaning.{codec_by, codecs_by, blank_codec, FoundAt}

-- ---- how many there are
module _ (c : Config) where
  pub length_codecs : length (codecs_by c) ≡ min c.count (length c.codecs)
  unfolding codecs_by
  length_codecs = length-map (take c.count c.codecs) codec_by ∙ length-take c.count c.codecs

-- ---- the one at a position
get_or_codecs : (c : Config) (i : ℕ) (d : Place) → i < length (codecs_by c) → get_or (codecs_by c) i (codec_by d) ≡ codec_by (get_or c.codecs i d)
unfolding codecs_by
get_or_codecs c i d h =
    get_or-map codec_by (take c.count c.codecs) i d ∙ ap codec_by (get_or-take c.count c.codecs i d (omega (arith, length_codecs c)))

-- ---- looking for one that is named
pub named_places : (c : Config) (p : ℕ) (t : List ℕ) (r : Bool) → r ≡ list_any (λ k. names (codec_by k) p t) (take c.count c.codecs) → r ≡ named_in (codecs_by c) p t
unfolding named_in codecs_by
named_places c p t r e = e ∙ go (take c.count c.codecs)
  where
    go : (ks : List Place) → list_any (λ k. names (codec_by k) p t) ks ≡ list_any (λ k. names k p t) (map codec_by ks)
    go [] = refl
    go (k ∷ ks) = ap (λ (b : Bool). names (codec_by k) p t || b) (go ks)

-- ---- entry n, counted from 1
entry_past : (ks : List Codec) (n : ℕ) → length ks < n → entry_in ks n ≡ none
unfolding entry_in
entry_past ks zero h = refl
entry_past [] (suc n) h = refl
entry_past (k ∷ ks) (suc zero) h = absurd (omega arith)
entry_past (k ∷ ks) (suc (suc n)) h = entry_past ks (suc n) (omega arith)

entry_is : (ks : List Codec) (i : ℕ) (d : Codec) → i < length ks → entry_in ks (suc i) ≡ some (get_or ks i d)
unfolding entry_in
entry_is [] i d h = absurd (omega arith)
entry_is (k ∷ ks) zero d h = refl
entry_is (k ∷ ks) (suc i) d h = entry_is ks i d (omega arith)

module _ (c : Config) (n : ℕ) where
  pub entry_zero : n ≡ 0 → FoundAt c n None
  unfolding entry_in
  entry_zero z = record { is = rw z; codec = tt }

  entry_none : length (codecs_by c) < n → FoundAt c n None
  entry_none h = record { is = sym (entry_past (codecs_by c) n h); codec = tt }

  entry_some : 1 ≤ n → n ≤ length (codecs_by c) → FoundAt c n (Some (get_or c.codecs (n - 1) blank_codec))
  entry_some h k =
      let z : n ≡ suc (n - 1) = omega arith in
      let q : n - 1 < length (codecs_by c) = omega arith in
      record {
        is = rw (← get_or_codecs c (n - 1) blank_codec q, ← entry_is (codecs_by c) (n - 1) (codec_by blank_codec) q) (ap (entry_in (codecs_by c)) (sym z));
        codec = refl;
      }

  -- what is at index n - 1
  pub entry_found : (r : Option Place) → 1 ≤ n → r ≡ slice_get (take c.count c.codecs) (n - 1) → FoundAt c n r
  entry_found r h e =
      by_lt (n - 1) (length (take c.count c.codecs)) _
      (λ k. let q : n - 1 < c.count = omega (arith, length-take c.count c.codecs) in
      rw (e ∙ slice_get-get_or (take c.count c.codecs) (n - 1) blank_codec k ∙ ap Some (get_or-take c.count c.codecs (n - 1) blank_codec q))
      (entry_some h (omega (arith, length_codecs c, length-take c.count c.codecs))))
      (λ k. rw (e ∙ slice_get_past (take c.count c.codecs) (n - 1) k) (entry_none (omega (arith, length_codecs c, length-take c.count c.codecs))))

-- a copy of what is at an index
pub copied_is : (ks : List Place) (i : ℕ) (r : Option (Bor Place)) → is_some r ≡ ltb i (length ks) → IfSome r (λ x. x.now ≡ get_or ks i x.now) → option_copied r ≡ slice_get ks i
copied_is ks i None h g =
    by_lt i (length ks) _
    (λ k. absurd (true≢false (sym (lt-ltb i (length ks) k) ∙ sym h)))
    (λ k. sym (slice_get_past ks i k))
copied_is ks i (Some x) h g =
    by_lt i (length ks) _
    (λ k. ap Some g ∙ sym (slice_get-get_or ks i x.now k))
    (λ k. absurd (true≢false (h ∙ le-ltb i (length ks) k)))
