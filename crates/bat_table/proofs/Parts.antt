-- The part of the data that an entry names is its element, as it can be passed on. No element's entry is taken for none, and no
-- count for a refusal.
-- Assumes nothing.
use Prim.Native.Nat.{ℕ, zero, suc, ◌+◌, ◌≤◌, ◌<◌}
use mathlib.Core.Path.{◌≡◌, refl, sym, ap, ap₂, ◌∙◌}
use mathlib.Core.List.{List, [], ◌∷◌, map, flat_map}
use mathlib.Core.Option.{some}
use lib.ListN.{length, drop, get_or, length-append}
use lib.Seq.{drop-drop, drop_at, take_at}
use native.Mathlib.Omega.{arith}
use Rattle.bat.specs.Framing.{Element, whole, header, elements, taken, cut}
use Rattle.bat.specs.FramingMeaning.{count_of}
use Rattle.bat.proofs.WalkLaws.{front_whole}
use Rattle.bat.proofs.DataLaws.{elements_next, laid, taken_is}
use Rattle.octets.specs.Puts.{refused_from}
use Rattle.bat_table.specs.Table.{entry_of, entries_from, entry_octets, no_entry, count_for_c}

parts_from : (s : List ℕ) (d : ℕ) (es : List Element) → flat_map whole es ≡ drop d s → map (entry_octets s) (entries_from d es) ≡ map whole es
unfolding entries_from flat_map
parts_from s d [] h = refl
parts_from s d (e ∷ es) h =
    let here : entry_octets s (entry_of d e) ≡ whole e = rw (← h) (take_at (whole e) (flat_map whole es) (length (whole e)) refl) in
    let rest : flat_map whole es ≡ drop (d + length (whole e)) s = sym (sym (drop-drop (length (whole e)) d s) ∙ rw (← h) (drop_at (whole e) (flat_map whole es) (length (whole e)) refl)) in
    ap₂ (λ (x : List ℕ) (xs : List (List ℕ)). x ∷ xs) here (parts_from s (d + length (whole e)) es rest)

-- entry by entry
pub entries_parts : (entries : ℕ) (s : List ℕ) (es : List Element) → cut entries s ≡ taken es → map (entry_octets s) (entries_from 0 es) ≡ map whole es
entries_parts entries s es p = parts_from s 0 es (laid s es (taken_is entries s es p).are)

-- ---- an element has an identifier, a length and a compatibility octet, where none has no octet
some_from : (s : List ℕ) (d : ℕ) (es : List Element) → elements s ≡ some es → (i : ℕ) → i < length es → 3 ≤ (get_or (entries_from d es) i no_entry).length
unfolding entries_from
some_from s d [] p i h = absurd (omega arith)
some_from s d (e ∷ es) p zero h = let (t, q, rest) = elements_next s e es p in front_whole s e t q
some_from s d (e ∷ es) p (suc i) h = let (t, q, rest) = elements_next s e es p in some_from t (d + length (whole e)) es rest i (omega arith)

pub entries_some : (entries : ℕ) (s : List ℕ) (es : List Element) → cut entries s ≡ taken es → (i : ℕ) → i < length es → 3 ≤ (get_or (entries_from 0 es) i no_entry).length
entries_some entries s es p = some_from s 0 es (taken_is entries s es p).are

-- ---- an element has octets, so there are no more elements than octets
length_elements : (es : List Element) → length es ≤ length (flat_map whole es)
unfolding flat_map whole header
length_elements [] = omega arith
length_elements (e ∷ es) = simp length-append (omega (arith, length_elements es))

pub count_low : (entries : ℕ) (s : List ℕ) (es : List Element) → cut entries s ≡ taken es → count_for_c (count_of (cut entries s)) < refused_from
unfolding count_of
count_low entries s es p =
    let h = taken_is entries s es p in
    rw p (omega (arith, h.short, length_elements es, ap (λ (l : List ℕ). length l) (laid s es h.are)))
