-- The reduced list has each codec that is in both lists, once, in the leading order, and the flags of the code name its codecs.
-- Assumes nothing.
use Prim.Native.Nat.{ℕ, suc, ◌≤◌}
use mathlib.Core.Path.{◌≡◌, refl, sym, ap, ◌∙◌}
use mathlib.Core.Bool.{Bool, true, false, ◌&&◌, ◌||◌, cond, and-false, or-false, or-true, or_assoc}
use mathlib.Core.List.{List, [], ◌∷◌, ◌++◌, map, Sublistᴰ}
use lib.ListN.{length, length-append}
use native.Mathlib.Omega.{arith}
use Rattle.octets.specs.Words.{same}
use Rattle.octets.proofs.CaseLaws.{by_bool}
use Rattle.octets.proofs.WordLaws.{same_self, by_same}
use Rattle.bat.specs.Writing.{element_text, codec_text, codecs_text}
use Rattle.bat_write.specs.Selected.{selected}
use Rattle.bat_match.specs.Matching.{PlacedCodec, codec_octets, has_octets, has_codec, common, without, first_of_each}
use Rattle.bat_match.specs.Promises.{distinct}
use Rattle.bat_match.specs.Private.{selection_after}

-- the codecs of the reduced list
abbrev pub reduced_codecs : List PlacedCodec → List PlacedCodec → List PlacedCodec
reduced_codecs leading other = first_of_each (common leading other)

-- ---- which codecs are in the reduced list
pub has_append : (t : List ℕ) (xs ys : List PlacedCodec) → has_octets t (xs ++ ys) ≡ (has_octets t xs || has_octets t ys)
unfolding has_octets
has_append t [] ys = refl
has_append t (x ∷ xs) ys = rw (has_append t xs ys) (sym (or_assoc (same t (codec_octets x)) (has_octets t xs) (has_octets t ys)))

pub has_common : (t : List ℕ) (xs ys : List PlacedCodec) → has_octets t (common xs ys) ≡ (has_octets t xs && has_octets t ys)
unfolding has_octets common
has_common t [] ys = refl
has_common t (x ∷ xs) ys =
    let ih = has_common t xs ys in
    by_bool (has_codec x ys) _
    (λ h. by_same t (codec_octets x) _
    (λ e p. let k : has_octets t ys ≡ true = rw e h in rw (h, p, k))
    (λ p. rw (h, p) ih))
    (λ h. by_same t (codec_octets x) _
    (λ e p. let k : has_octets t ys ≡ false = rw e h in rw (h, p, ih, k) (and-false (has_octets t xs)))
    (λ p. rw (h, p) ih))

has_without : (t : List ℕ) (c : PlacedCodec) (ys : List PlacedCodec) → same t (codec_octets c) ≡ false → has_octets t (without c ys) ≡ has_octets t ys
unfolding has_octets without
has_without t c [] h = refl
has_without t c (y ∷ ys) h =
    let ih = has_without t c ys h in
    by_same (codec_octets y) (codec_octets c) _
    (λ e p. let k : same t (codec_octets y) ≡ false = rw e h in rw (p, k) ih)
    (λ p. rw (p, ih))

has_firsts : (t : List ℕ) (cs : List PlacedCodec) → has_octets t (first_of_each cs) ≡ has_octets t cs
unfolding has_octets first_of_each
has_firsts t [] = refl
has_firsts t (c ∷ cs) =
    by_bool (same t (codec_octets c)) _
    (λ p. rw p)
    (λ p. rw p (has_without t c (first_of_each cs) p ∙ has_firsts t cs))

pub has_reduced : (t : List ℕ) (xs ys : List PlacedCodec) → has_octets t (reduced_codecs xs ys) ≡ (has_octets t xs && has_octets t ys)
has_reduced t xs ys = has_firsts t (common xs ys) ∙ has_common t xs ys

-- ---- once each
not_without : (t : List ℕ) (c : PlacedCodec) (ys : List PlacedCodec) → has_octets t ys ≡ false → has_octets t (without c ys) ≡ false
unfolding has_octets without
not_without t c [] h = refl
not_without t c (y ∷ ys) h =
    by_bool (same t (codec_octets y)) _
    (λ p. absurd (let z : true ≡ false = rw p at h in let y : ◌≡◌ {A = ℕ} 0 1 = cc in omega arith))
    (λ p. let rest : has_octets t ys ≡ false = rw p at h in
    by_bool (same (codec_octets y) (codec_octets c)) _
    (λ q. rw q (not_without t c ys rest))
    (λ q. rw (q, p) (not_without t c ys rest)))

gone : (c : PlacedCodec) (ys : List PlacedCodec) → has_octets (codec_octets c) (without c ys) ≡ false
unfolding has_octets without
gone c [] = refl
gone c (y ∷ ys) =
    by_same (codec_octets y) (codec_octets c) _
    (λ e p. rw p (gone c ys))
    (λ p. by_same (codec_octets c) (codec_octets y) _
    (λ e q. absurd (let k = same_self (codec_octets y) in let z : same (codec_octets y) (codec_octets y) ≡ false = rw e at p in let y : ◌≡◌ {A = ℕ} 0 1 = cc in omega arith))
    (λ q. rw (p, q) (gone c ys)))

distinct_without : (c : PlacedCodec) (ys : List PlacedCodec) → distinct ys ≡ true → distinct (without c ys) ≡ true
unfolding distinct without
distinct_without c [] h = refl
distinct_without c (y ∷ ys) h =
    by_bool (has_codec y ys) _
    (λ p. absurd (let z : false ≡ true = rw p at h in let y : ◌≡◌ {A = ℕ} 0 1 = cc in omega arith))
    (λ p. let rest : distinct ys ≡ true = rw p at h in
    by_bool (same (codec_octets y) (codec_octets c)) _
    (λ q. rw q (distinct_without c ys rest))
    (λ q. rw (q, not_without (codec_octets y) c ys p) (distinct_without c ys rest)))

pub distinct_firsts : (cs : List PlacedCodec) → distinct (first_of_each cs) ≡ true
unfolding distinct first_of_each
distinct_firsts [] = refl
distinct_firsts (c ∷ cs) = rw (gone c (first_of_each cs)) (distinct_without c (first_of_each cs) (distinct_firsts cs))

-- ---- in order
order_then : {xs ys zs : List PlacedCodec} → Sublistᴰ xs ys → Sublistᴰ ys zs → Sublistᴰ xs zs
order_then p Sublistᴰ.slnil = p
order_then p (Sublistᴰ.cons q) = Sublistᴰ.cons (order_then p q)
order_then (Sublistᴰ.cons p) (Sublistᴰ.cons-cons e q) = Sublistᴰ.cons (order_then p q)
order_then (Sublistᴰ.cons-cons d p) (Sublistᴰ.cons-cons e q) = Sublistᴰ.cons-cons (d ∙ e) (order_then p q)

order_if : (b : Bool) (x : PlacedCodec) {rs xs : List PlacedCodec} → Sublistᴰ rs xs → Sublistᴰ (cond b (x ∷ rs) rs) (x ∷ xs)
order_if true x p = Sublistᴰ.cons-cons refl p
order_if false x p = Sublistᴰ.cons p

order_common : (xs ys : List PlacedCodec) → Sublistᴰ (common xs ys) xs
unfolding common
order_common [] ys = Sublistᴰ.slnil
order_common (x ∷ xs) ys = order_if (has_codec x ys) x (order_common xs ys)

order_unless : (b : Bool) (x : PlacedCodec) {rs xs : List PlacedCodec} → Sublistᴰ rs xs → Sublistᴰ (cond b rs (x ∷ rs)) (x ∷ xs)
order_unless true x p = Sublistᴰ.cons p
order_unless false x p = Sublistᴰ.cons-cons refl p

order_without : (c : PlacedCodec) (ys : List PlacedCodec) → Sublistᴰ (without c ys) ys
unfolding without
order_without c [] = Sublistᴰ.slnil
order_without c (y ∷ ys) = order_unless (same (codec_octets y) (codec_octets c)) y (order_without c ys)

order_firsts : (cs : List PlacedCodec) → Sublistᴰ (first_of_each cs) cs
unfolding first_of_each
order_firsts [] = Sublistᴰ.slnil
order_firsts (c ∷ cs) = Sublistᴰ.cons-cons refl (order_then (order_without c (first_of_each cs)) (order_firsts cs))

pub order_reduced : (xs ys : List PlacedCodec) → Sublistᴰ (reduced_codecs xs ys) xs
order_reduced xs ys = order_then (order_firsts (common xs ys)) (order_common xs ys)

-- ---- in no more octets
pub shorter : {rs xs : List PlacedCodec} → Sublistᴰ rs xs → length (codecs_text (map (λ (c : PlacedCodec). c.codec) rs)) ≤ length (codecs_text (map (λ (c : PlacedCodec). c.codec) xs))
unfolding codecs_text
shorter Sublistᴰ.slnil = omega arith
shorter (Sublistᴰ.cons {a = x} {l₂ = xs} p) =
    let ih = shorter p in
    omega (arith, length-append (element_text 5 x.codec.compatibility (codec_text x.codec.codec)) (codecs_text (map (λ (c : PlacedCodec). c.codec) xs)))
shorter (Sublistᴰ.cons-cons {a = r} {b = x} {l₁ = rs} {l₂ = xs} e p) =
    let ih = shorter p in
    let a = length-append (element_text 5 x.codec.compatibility (codec_text x.codec.codec)) (codecs_text (map (λ (c : PlacedCodec). c.codec) rs)) in
    let b = length-append (element_text 5 x.codec.compatibility (codec_text x.codec.codec)) (codecs_text (map (λ (c : PlacedCodec). c.codec) xs)) in
    rw e (omega (arith, a, b))

-- ---- the flags
-- those of cs that are not among `before`
unfoldable others : List PlacedCodec → List PlacedCodec → List PlacedCodec
others before [] = []
others before (c ∷ cs) = cond (has_codec c before) (others before cs) (c ∷ others before cs)

others_none : (cs : List PlacedCodec) → others [] cs ≡ cs
unfolding others has_octets
others_none [] = refl
others_none (c ∷ cs) = rw (others_none cs)

has_last : (t : List ℕ) (before : List PlacedCodec) (c : PlacedCodec) (b : Bool) → same t (codec_octets c) ≡ b → has_octets t (before ++ (c ∷ [])) ≡ (has_octets t before || b)
unfolding has_octets
has_last t before c b h = has_append t before (c ∷ []) ∙ rw (h, or-false b)

-- to leave out a codec is to have it among those before
others_without : (before : List PlacedCodec) (c : PlacedCodec) (ys : List PlacedCodec) → others before (without c ys) ≡ others (before ++ (c ∷ [])) ys
unfolding others without
others_without before c [] = refl
others_without before c (y ∷ ys) =
    let ih = others_without before c ys in
    by_bool (same (codec_octets y) (codec_octets c)) _
    (λ p. rw (p, has_last (codec_octets y) before c true p, or-true (has_codec y before)) ih)
    (λ p. rw (p, has_last (codec_octets y) before c false p, or-false (has_codec y before), ih))

-- every codec of cs is in ys
data AllIn (ys : List PlacedCodec) : List PlacedCodec → Type 0 where
  nil : AllIn ys []
  cons : {c : PlacedCodec} {cs : List PlacedCodec} → has_codec c ys ≡ true → AllIn ys cs → AllIn ys (c ∷ cs)

all_common : (xs ys : List PlacedCodec) → AllIn ys (common xs ys)
unfolding common
all_common [] ys = nil
all_common (x ∷ xs) ys =
    by_bool (has_codec x ys) _
    (λ h. rw h (cons h (all_common xs ys)))
    (λ h. rw h (all_common xs ys))

all_order : {ys rs xs : List PlacedCodec} → Sublistᴰ rs xs → AllIn ys xs → AllIn ys rs
all_order Sublistᴰ.slnil nil = nil
all_order (Sublistᴰ.cons p) (cons h a) = all_order p a
all_order {ys} (Sublistᴰ.cons-cons {a = r} e p) (cons h a) = let k : has_codec r ys ≡ true = rw e h in cons k (all_order p a)

-- a codec that is not in ys is none of those that are
others_absent : (before ys : List PlacedCodec) (c : PlacedCodec) (cs : List PlacedCodec) → has_codec c ys ≡ false → AllIn ys cs → others (before ++ (c ∷ [])) cs ≡ others before cs
unfolding others
others_absent before ys c [] h nil = refl
others_absent before ys c (d ∷ cs) h (cons k a) =
    let ih = others_absent before ys c cs h a in
    by_same (codec_octets d) (codec_octets c) _
    (λ e p. absurd (let z : has_codec c ys ≡ true = rw e at k in let y : ◌≡◌ {A = ℕ} 0 1 = cc in omega arith))
    (λ p. rw (has_last (codec_octets d) before c false p, or-false (has_codec d before), ih))

selected_others : (before xs ys : List PlacedCodec) → selected (selection_after before xs ys) xs ≡ others before (first_of_each (common xs ys))
unfolding selected selection_after common first_of_each others
selected_others before [] ys = refl
selected_others before (x ∷ xs) ys =
    let cs = first_of_each (common xs ys) in
    let ih = selected_others (before ++ (x ∷ [])) xs ys in
    by_bool (has_codec x ys) _
    (λ h. by_bool (has_codec x before) _
    (λ k. rw (h, k) (ih ∙ sym (others_without before x cs)))
    (λ k. rw (h, k) (ap (λ (l : List PlacedCodec). x ∷ l) (ih ∙ sym (others_without before x cs)))))
    (λ h. rw h (ih ∙ others_absent before ys x cs h (all_order (order_firsts (common xs ys)) (all_common xs ys))))

-- the selected codecs of the leading list are those of the reduced list
pub selected_reduced : (xs ys : List PlacedCodec) → selected (selection_after [] xs ys) xs ≡ reduced_codecs xs ys
selected_reduced xs ys = selected_others [] xs ys ∙ others_none (reduced_codecs xs ys)

pub length_selection : (before xs ys : List PlacedCodec) → length (selection_after before xs ys) ≡ length xs
unfolding selection_after
length_selection before [] ys = refl
length_selection before (x ∷ xs) ys = ap suc (length_selection (before ++ (x ∷ [])) xs ys)
