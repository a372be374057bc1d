-- Document 01, "Elements", the first two paragraphs (YD/T 1193.4 after Q.765.5, 4.6.1.1): the four fields of an element, and
-- how application data is cut into elements. Numbers 1, 2 and 3. Stricter than 4.6.1.1, which sets no bound: data has at
-- most 2,048 octets, and a length is not 0, since it counts a compatibility octet.
use Rattle.std.specs.Prelude.{ℕ, zero, suc, ◌+◌, ◌*◌, ◌%◌, List, [], ◌∷◌, ◌++◌, Bool, cond, length, get_or, take, drop, leb, ltb, eqb}
use Rattle.std.proofs.Math.Option.{Option, none, some, map, Option-elim}
use Rattle.octets.specs.declared.Refusal.{Refusal}
use Rattle.octets.specs.declared.Refusal.TheVariants.{DataTooLong, Unframed, TableTooShort}

-- ---- octets
-- bit 8 of an octet is set
abbrev pub bit8 : ℕ → Bool
bit8 b = leb 128 b

-- octet k of s, from 0; 0 if there is none
abbrev pub octet : ℕ → List ℕ → ℕ
octet k s = get_or s k 0

-- ---- length
-- A length field: its octets, its number, and what follows it.
pub data Length : Type 0 where
  sized : List ℕ → ℕ → List ℕ → Length
  unsized : Length

-- The length at the front of s, in one or two octets. If bit 8 of the first is set, it is the only one. Its other bits are
-- the low bits of the number. The second octet, which must be the last, adds its bits 4 to 1 as the high bits; its bits 7
-- to 5 are ignored. So a small number may take two octets. If an octet is missing, or the second is not the last, there
-- is no length.
unfoldable pub length_of : List ℕ → Length
length_of [] = unsized
length_of (a ∷ []) = cond (bit8 a) (sized (a ∷ []) (a % 128) []) unsized
length_of (a ∷ b ∷ s) =
    cond (bit8 a) (sized (a ∷ []) (a % 128) (b ∷ s))
    (cond (bit8 b) (sized (a ∷ b ∷ []) (a % 128 + b % 16 * 128) s) unsized)

-- ---- compatibility
-- The last compatibility octet is the first one with bit 8 set. How many octets of s are before it; all of them if there
-- is none.
unfoldable pub unmarked : List ℕ → ℕ
unmarked [] = 0
unmarked (b ∷ s) = cond (bit8 b) 0 (suc (unmarked s))

-- ---- element
-- Its fields in order. `size` holds the octets of the length; `compatibility` is the first compatibility octet, the only
-- one with a meaning, and `extension` holds the others.
pub record Element : Type 0 where
  pub identifier : ℕ
  pub size : List ℕ
  pub compatibility : ℕ
  pub extension : List ℕ
  pub contents : List ℕ

-- the octets before the contents
unfoldable pub header : Element → List ℕ
header e = e.identifier ∷ (e.size ++ (e.compatibility ∷ e.extension))

-- all its octets
unfoldable pub whole : Element → List ℕ
whole e = header e ++ e.contents

-- What is at the front of octets: an element and what follows it, octets that can't be framed, or nothing.
pub data Front : Type 0 where
  first : Element → List ℕ → Front
  unframed : Front
  ended : Front

-- The length counts s, which holds compatibility and contents; t follows it. There is no element if every octet of s has
-- bit 8 clear, since its compatibility would go on past s.
unfoldable pub counted_by : ℕ → List ℕ → List ℕ → List ℕ → Front
counted_by i size s t =
    cond (ltb (unmarked s) (length s))
    (first (record {
      identifier = i;
      size = size;
      compatibility = octet 0 s;
      extension = take (unmarked s) (drop 1 s);
      contents = drop (suc (unmarked s)) s;
    }) t)
    unframed

-- Nor is there one if the length n is 0, or counts more octets than t has.
unfoldable pub element_by : ℕ → List ℕ → ℕ → List ℕ → Front
element_by i size n t =
    cond (eqb n 0) unframed
    (cond (ltb (length t) n) unframed
    (counted_by i size (take n t) (drop n t)))

-- the element with identifier i, by the length after it
unfoldable pub sized_by : ℕ → Length → Front
sized_by i (sized size n t) = element_by i size n t
sized_by i unsized = unframed

-- an identifier, then a length and what it counts
unfoldable pub front : List ℕ → Front
front [] = ended
front (i ∷ s) = sized_by i (length_of s)

-- by cases on what is at the front
unfoldable pub on_front : {X : Type 0} → Front → (Element → List ℕ → X) → X → X → X
on_front (first e t) go bad end = go e t
on_front unframed go bad end = bad
on_front ended go bad end = end

-- ---- one element after the other
-- A fold over the elements of s, the first of which is d octets after some point. `step` takes an element, its distance
-- from that point, and the result for the elements after it; `bad` takes the distance of octets that can't be framed.
-- Every element has octets, so s has no more elements than octets: k counts down from that.
unfoldable pub walk_from : {X : Type 0} → (Element → ℕ → X → X) → (ℕ → X) → X → ℕ → ℕ → List ℕ → X
walk_from step bad end zero d s = end
walk_from step bad end (suc k) d s =
    on_front (front s) (λ e t. step e d (walk_from step bad end k (d + length (whole e)) t)) (bad d) end

unfoldable pub walk : {X : Type 0} → (Element → ℕ → X → X) → (ℕ → X) → X → ℕ → List ℕ → X
walk step bad end d s = walk_from step bad end (length s) d s

-- the same without the distance
unfoldable pub fold : {X : Type 0} → (Element → X → X) → X → X → List ℕ → X
fold step bad end s = walk (λ e d x. step e x) (λ d. bad) end 0 s

-- ---- application data
-- its elements, if all of it can be framed; empty data has none
unfoldable pub elements : List ℕ → Option (List Element)
elements s = fold (λ e es. map (λ (r : List Element). e ∷ r) es) none (some []) s

-- application data, and a whole element, have at most so many octets
abbrev pub most_octets : ℕ
most_octets = 2048

-- Application data is refused, or taken as its elements.
pub data Cut : Type 0 where
  refused : Refusal → Cut
  taken : List Element → Cut

-- number 3 if the table is too small
unfoldable pub room_for : ℕ → List Element → Cut
room_for entries es = cond (ltb entries (length es)) (refused TableTooShort) (taken es)

-- number 1 if the data is too long, otherwise 2 if it can't be framed, otherwise 3 if the table is too small
unfoldable pub cut : ℕ → List ℕ → Cut
cut entries s = cond (ltb most_octets (length s)) (refused DataTooLong) (Option-elim (elements s) (refused Unframed) (room_for entries))
