-- The elements of application data go from one to the next, and laid end to end they are the data: cutting neither drops
-- nor invents an octet. Data that is taken is not too long, and has no more elements than the table has entries.
-- Assumes nothing.
use Prim.Native.Nat.{ℕ, ◌≤◌}
use mathlib.Core.Path.{◌≡◌, refl, sym, ap, ◌∙◌}
use mathlib.Core.List.{List, [], ◌∷◌, ◌++◌, flat_map}
use mathlib.Core.Option.{Option, none, some, map, Option-elim}
use lib.ListN.{length}
use native.Mathlib.Omega.{arith}
use borrow.Author.Tests.{lt-ltb, le-ltb}
use Rattle.octets.specs.declared.Refusal.TheVariants.{DataTooLong, Unframed, TableTooShort}
use Rattle.octets.proofs.CaseLaws.{by_lt}
use Rattle.bat.specs.Framing.{Element, whole, Front, front, first, unframed, ended, elements, most_octets, refused, taken, room_for, cut}
use Rattle.bat.proofs.WalkLaws.{front_within, front_nil, fold_ended, fold_unframed, fold_first, by_front}

module _ (s : List ℕ) where
  pub elements_ended : front s ≡ ended → elements s ≡ some []
  unfolding elements
  elements_ended q = fold_ended (λ e es. map (λ (r : List Element). e ∷ r) es) none (some []) s q

  pub elements_unframed : front s ≡ unframed → elements s ≡ none
  unfolding elements
  elements_unframed q = fold_unframed (λ e es. map (λ (r : List Element). e ∷ r) es) none (some []) s q

  pub elements_first : (e : Element) (t : List ℕ) → front s ≡ first e t → elements s ≡ map (λ (r : List Element). e ∷ r) (elements t)
  unfolding elements
  elements_first e t q = fold_first (λ e es. map (λ (r : List Element). e ∷ r) es) none (some []) s e t q

-- ---- the first element, and those after it
map_some : (e d : Element) (o : Option (List Element)) (es : List Element) → map (λ (r : List Element). d ∷ r) o ≡ some (e ∷ es) → (d ≡ e) × (o ≡ some es)
map_some e d none es p = absurd (let z : ◌≡◌ {A = ℕ} 0 1 = cc in omega arith)
map_some e d (some r) es p = let q : d ∷ r ≡ e ∷ es = cc in let k : r ≡ es = cc in (cc, rw k)

module _ (s : List ℕ) (e : Element) (es : List Element) (p : elements s ≡ some (e ∷ es)) where
  next_at : (f : Front) → front s ≡ f → (t : List ℕ) × (front s ≡ first e t) × (elements t ≡ some es)
  next_at (first d t) q =
      let (is, rest) = map_some e d (elements t) es (sym (elements_first s d t q) ∙ p) in
      (t, q ∙ ap (λ (x : Element). first x t) is, rest)
  next_at unframed q = absurd (let n = elements_unframed s q in let z : ◌≡◌ {A = ℕ} 0 1 = cc in omega arith)
  next_at ended q = absurd (let n = elements_ended s q in let z : ◌≡◌ {A = ℕ} 0 1 = cc in omega arith)

  pub elements_next : (t : List ℕ) × (front s ≡ first e t) × (elements t ≡ some es)
  elements_next = next_at (front s) refl

-- ---- laid end to end
laid_with : (e : Element) (t : List ℕ) (o : Option (List Element)) (es : List Element) → ((r : List Element) → o ≡ some r → flat_map whole r ≡ t) → map (λ (r : List Element). e ∷ r) o ≡ some es → flat_map whole es ≡ whole e ++ t
unfolding flat_map
laid_with e t none es ih p = absurd (let z : ◌≡◌ {A = ℕ} 0 1 = cc in omega arith)
laid_with e t (some r) es ih p =
    let q : e ∷ r ≡ es = cc in
    rw (← q) (ap (λ (l : List ℕ). whole e ++ l) (ih r refl))

pub laid : (s : List ℕ) (es : List Element) → elements s ≡ some es → flat_map whole es ≡ s
unfolding flat_map
laid =
    by_front (λ (s : List ℕ). (es : List Element) → elements s ≡ some es → flat_map whole es ≡ s)
    (λ es p. let q : ◌≡◌ {A = List Element} [] es = cc (elements_ended [] front_nil) in rw (← q))
    (λ s q es p. absurd (let n = elements_unframed s q in let z : ◌≡◌ {A = ℕ} 0 1 = cc in omega arith))
    (λ s e t q ih es p. laid_with e t (elements t) es ih (sym (elements_first s e t q) ∙ p) ∙ sym (front_within s e t q))

-- ---- data that is taken
pub record Taken (entries : ℕ) (s : List ℕ) (es : List Element) : Type 0 where
  pub short : length s ≤ most_octets
  pub are : elements s ≡ some es
  pub room : length es ≤ entries

module _ (entries : ℕ) (s : List ℕ) (es : List Element) where
  taken_by : (o : Option (List Element)) → Option-elim o (refused Unframed) (room_for entries) ≡ taken es → (o ≡ some es) × (length es ≤ entries)
  unfolding room_for Option-elim
  taken_by none p = absurd (let z : ◌≡◌ {A = ℕ} 0 1 = cc in omega arith)
  taken_by (some fs) p =
      by_lt entries (length fs) _
      (λ h. let z : refused TableTooShort ≡ taken es = rw (lt-ltb entries (length fs) h) at p in absurd (let z : ◌≡◌ {A = ℕ} 0 1 = cc in omega arith))
      (λ h. let z : taken fs ≡ taken es = rw (le-ltb entries (length fs) h) at p in let k : fs ≡ es = cc in rw (← k) (refl, h))

  pub taken_is : cut entries s ≡ taken es → Taken entries s es
  unfolding cut
  taken_is p =
      by_lt most_octets (length s) _
      (λ h. let z : refused DataTooLong ≡ taken es = rw (lt-ltb most_octets (length s) h) at p in absurd (let z : ◌≡◌ {A = ℕ} 0 1 = cc in omega arith))
      (λ h. let (are, room) = taken_by (elements s) (rw (le-ltb most_octets (length s) h) at p) in record { short = h; are = are; room = room })
