-- The elements of the data are counted one after the other, from what follows those already counted.
-- Assumes nothing.
use Prim.Native.Nat.{ℕ, ◌+◌, ◌-◌, ◌^◌, ◌≤◌, ◌<◌}
use mir.Syntax.{w64}
use mir.Val.{Fits}
use mathlib.Core.Path.{◌≡◌, refl, sym, ap, ◌∙◌}
use mathlib.Core.List.{List, ◌∷◌}
use mathlib.Core.Option.{Option, none, some, map, Option-elim}
use mathlib.Core.Bool.{cond}
use lib.Dec.{ltb}
use lib.ListN.{length, drop, length-take, length-drop, length-append}
use native.Mathlib.Omega.{arith}
use borrow.Author.Tests.{lt-ltb, le-ltb, le-leb, lt-leb}
use Rattle.octets.proofs.CaseLaws.{by_le, by_bool}
use Rattle.std.specs.Prelude as std
use Rattle.std.specs.Prelude.{Result, Ok, Err, Some, None}
use Rattle.octets.specs.declared.Refusal.{Refusal}
use Rattle.octets.specs.declared.Refusal.TheVariants as refusal
use Rattle.bat.specs.declared.Frame.{Frame}
use Rattle.bat.specs.declared.Unframed.{Unframed}
use Rattle.bat.specs.Framing.{Element, header, whole, Front, front, first, unframed, ended, elements, refused, most_octets, room_for, cut}
use Rattle.bat.specs.FramingMeaning.{header_length, whole_length, element_in, front_in, WholeLength, count_of}
use Rattle.bat.specs.Private.{count_in}
use Rattle.bat.proofs.WalkLaws.{front_within, front_whole}
use Rattle.bat.proofs.DataLaws.{elements_ended, elements_unframed, elements_first}

-- ---- the element that an answer stands for at the front of s
whole_in : (s : List ℕ) (f : Frame) (z : Front) → front_in s (Ok (Some f)) ≡ some z → (whole_length f ≤ length s) × (z ≡ first (element_in s f) (drop (whole_length f) s))
unfolding front_in
whole_in s f z p =
    by_le (whole_length f) (length s) _
    (λ h. let q : some (first (element_in s f) (drop (whole_length f) s)) ≡ some z = rw (le-leb (whole_length f) (length s) h) at p in (h, cc))
    (λ h. let q : none ≡ some z = rw (lt-leb (whole_length f) (length s) h) at p in absurd (let z : ◌≡◌ {A = ℕ} 0 1 = cc in omega arith))

module _ (s : List ℕ) (x : Result (std.Option Frame) Unframed) (is : front_in s x ≡ some (front s)) where
  pub frame_ended : x ≡ Ok None → front s ≡ ended
  unfolding front_in
  frame_ended e = let p : some ended ≡ some (front s) = rw e at is in cc

  pub frame_unframed : (r : Unframed) → x ≡ Err r → front s ≡ unframed
  unfolding front_in
  frame_unframed r e = let p : some unframed ≡ some (front s) = rw e at is in cc

  pub frame_is : (f : Frame) → x ≡ Ok (Some f) → front s ≡ first (element_in s f) (drop (whole_length f) s)
  frame_is f e = (whole_in s f (front s) (rw e at is)).1

  pub frame_fits : (f : Frame) → x ≡ Ok (Some f) → whole_length f ≤ length s
  frame_fits f e = (whole_in s f (front s) (rw e at is)).0

  -- so many octets are before its contents
  pub frame_header : (f : Frame) → x ≡ Ok (Some f) → length (header (element_in s f)) ≡ header_length f
  unfolding header element_in
  frame_header f e = simp (length-append, length-take, length-drop) (omega (arith, frame_fits f e))

  module _ (f : Frame) (e : x ≡ Ok (Some f)) (w : ℕ) (l : WholeLength f w) where
    pub frame_inside : w ≤ length s
    frame_inside = omega (arith, frame_fits f e, l.is)

    pub frame_first : front s ≡ first (element_in s f) (drop w s)
    frame_first = frame_is f e ∙ rw l.is

    -- its length is that of its octets
    pub frame_length : w ≡ length (whole (element_in s f))
    frame_length =
        omega (arith, frame_inside, simp (length-append, length-drop) at (ap (λ (z : List ℕ). length z) (front_within s (element_in s f) (drop w s) frame_first)))

    pub frame_some : 3 ≤ w
    frame_some = omega (arith, frame_length, front_whole s (element_in s f) (drop w s) frame_first)

module _ (s : List ℕ) (x : Result (std.Option Frame) Unframed) (is : front_in s x ≡ some (front s)) (f : Frame) (e : x ≡ Ok (Some f)) (w : ℕ) (l : WholeLength f w) where
  -- what follows an element is shorter
  pub frame_shorter : (t : List ℕ) → t ≡ drop w s → length t < length s
  frame_shorter t after = omega (arith, frame_inside s x is f e w l, frame_some s x is f e w l, ap (λ (z : List ℕ). length z) after, length-drop w s)

-- an answer that is taken apart in two steps
pub ok_is : {A E : Type 0} (x : Result (std.Option A) E) (v y : std.Option A) → x ≡ Ok v → v ≡ y → x ≡ Ok y
ok_is x v y p q = p ∙ ap Ok q

-- ---- the count
-- n elements, and those of o
unfoldable pub counted : ℕ → Option (List Element) → Result ℕ Refusal
counted n none = Err refusal.Unframed
counted n (some es) = Ok (n + length es)

pub counted_zero : (o : Option (List Element)) → counted 0 o ≡ count_in o
unfolding counted count_in
counted_zero none = refl
counted_zero (some es) = ap Ok (omega arith)

counted_more : (n : ℕ) (e : Element) (o : Option (List Element)) → counted n (map (λ (r : List Element). e ∷ r) o) ≡ counted (n + 1) o
unfolding counted
counted_more n e none = refl
counted_more n e (some es) = ap Ok (omega arith)

-- the octets s follow n elements; y is the count of all
module _ (s : List ℕ) (n : ℕ) (y : Result ℕ Refusal) (inv : counted n (elements s) ≡ y) (x : Result (std.Option Frame) Unframed) (is : front_in s x ≡ some (front s)) where
  pub count_ended : x ≡ Ok None → Ok n ≡ y
  unfolding counted
  count_ended e =
      let w : Ok (n + 0) ≡ y = rw (elements_ended s (frame_ended s x is e)) at inv in
      ap Ok (omega arith) ∙ w

  pub count_unframed : (r : Unframed) → x ≡ Err r → Err refusal.Unframed ≡ y
  unfolding counted
  count_unframed r e = rw (elements_unframed s (frame_unframed s x is r e)) at inv

  pub count_more : (f : Frame) → x ≡ Ok (Some f) → (w : ℕ) → WholeLength f w → (t : List ℕ) → t ≡ drop w s → counted (n + 1) (elements t) ≡ y
  count_more f e w l t after =
      rw after
      (sym (counted_more n (element_in s f) (elements (drop w s))) ∙ rw (elements_first s (element_in s f) (drop w s) (frame_first s x is f e w l)) at inv)

-- ---- the places of the data that a loop over its elements goes through
module _ (s : List ℕ) (at : ℕ) (t : List ℕ) (here : t ≡ drop at s) (x : Result (std.Option Frame) Unframed) (is : front_in t x ≡ some (front t)) (f : Frame) (e : x ≡ Ok (Some f)) (w : ℕ) (l : WholeLength f w) where
  pub place_inside : at + w ≤ length s
  place_inside = omega (arith, frame_inside t x is f e w l, frame_some t x is f e w l, ap (λ (z : List ℕ). length z) here, length-drop at s)

  pub place_fits : length s < 2 ^ 64 → Fits w64 (at + w)
  place_fits k = omega (arith, place_inside)

  pub place_more : (n : ℕ) → n ≤ at → n + 1 ≤ at + w
  place_more n h = omega (arith, frame_some t x is f e w l)

  pub place_falls : length s - (at + w) < length s - at
  place_falls = omega (arith, place_inside, frame_some t x is f e w l)

pub ruleset places = (place_inside, place_fits, place_more, place_falls)

pub ruleset counts = (count_ended, count_unframed, count_more, frame_shorter, ok_is)

-- ---- numbers 1, 2 and 3
module _ (s : List ℕ) (entries : ℕ) where
  pub cut_long : most_octets < length s → Err refusal.DataTooLong ≡ count_of (cut entries s)
  unfolding count_of cut
  cut_long h = simp (lt-ltb most_octets (length s) h)

  module _ (short : length s ≤ most_octets) (y : Result ℕ Refusal) (is : y ≡ count_in (elements s)) where
    cut_by : (o : Option (List Element)) → elements s ≡ o → count_of (cut entries s) ≡ count_of (Option-elim o (refused refusal.Unframed) (room_for entries))
    unfolding cut
    cut_by o e = rw (le-ltb most_octets (length s) short, e)

    cut_some : (o : Option (List Element)) → elements s ≡ o → (n : ℕ) → y ≡ Ok n → count_of (cut entries s) ≡ cond (ltb entries n) (Err refusal.TableTooShort) (Ok n)
    unfolding count_in count_of room_for Option-elim
    cut_some none e n p = let q : y ≡ Err refusal.Unframed = rw e at is in absurd (let z : ◌≡◌ {A = ℕ} 0 1 = cc in omega arith)
    cut_some (some es) e n p =
        let q : y ≡ Ok (length es) = rw e at is in
        let l : length es ≡ n = cc in
        cut_by (some es) e ∙ rw l (by_bool (ltb entries n) _ (λ b. rw b) (λ b. rw b (ap Ok l)))

    pub cut_unframed : (k : Refusal) → y ≡ Err k → Err k ≡ count_of (cut entries s)
    unfolding count_in count_of Option-elim
    cut_unframed k p = sym p ∙ go (elements s) refl
      where
        go : (o : Option (List Element)) → elements s ≡ o → y ≡ count_of (cut entries s)
        go none e = rw e at is ∙ sym (cut_by none e)
        go (some es) e = let q : y ≡ Ok (length es) = rw e at is in absurd (let z : ◌≡◌ {A = ℕ} 0 1 = cc in omega arith)

    pub cut_full : (n : ℕ) → y ≡ Ok n → entries < n → Err refusal.TableTooShort ≡ count_of (cut entries s)
    cut_full n p h = sym (cut_some (elements s) refl n p ∙ rw (lt-ltb entries n h))

    pub cut_taken : (n : ℕ) → y ≡ Ok n → n ≤ entries → Ok n ≡ count_of (cut entries s)
    cut_taken n p h = sym (cut_some (elements s) refl n p ∙ rw (le-ltb entries n h))

pub ruleset cuts = (cut_long, cut_unframed, cut_full, cut_taken)
