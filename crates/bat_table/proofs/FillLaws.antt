-- The table as it is filled: with each step of the data one entry is stored, and when all are, the table is what document 01 says.
-- Assumes nothing.
use Prim.Native.Nat.{ℕ, zero, suc, ◌+◌, ◌≤◌, ◌<◌}
use mathlib.Core.Path.{◌≡◌, refl, sym, ap, ◌∙◌}
use mathlib.Core.List.{List, [], ◌∷◌, ◌++◌, append_assoc}
use mathlib.Core.Option.{Option, none, some, map}
use lib.ListN.{length, take, drop, set, get_or, length-set}
use lib.Seq.{drop-cons, drop-drop, drop_at, take-suc, take_all, length-take-le, set_at}
use native.Mathlib.Omega.{arith}
use Rattle.std.specs.Prelude.{Result}
use Rattle.std.specs.Result.{result_unwrap_or}
use Rattle.octets.specs.declared.Refusal.{Refusal}
use Rattle.bat.specs.Framing.{Element, whole, front, first, on_front, elements, Cut, refused, taken, cut}
use Rattle.bat.specs.FramingMeaning.{count_of}
use Rattle.bat.proofs.WalkLaws.{front_within}
use Rattle.bat.proofs.DataLaws.{elements_next, Taken, taken_is}
use Rattle.bat_table.specs.declared.Entry.{Entry}
use Rattle.bat_table.specs.Table.{entry_of, entries_from, filled_by, table_after, no_entry}
use Rattle.bat_table.specs.Private.{step_at}

-- ---- i entries are stored, and the next element is at `spot`
abbrev pub spot : List ℕ → ℕ → ℕ
spot s zero = 0
spot s (suc i) = (step_at s (spot s i)).next

abbrev pub fill : List ℕ → List Entry → ℕ → List Entry
fill s ys zero = ys
fill s ys (suc i) = set (fill s ys i) i (step_at s (spot s i)).entry

pub length_fill : (s : List ℕ) (ys : List Entry) (i : ℕ) → length (fill s ys i) ≡ length ys
length_fill s ys zero = refl
length_fill s ys (suc i) = length-set (fill s ys i) i (step_at s (spot s i)).entry ∙ length_fill s ys i

-- ---- the entries of the elements from the place d on: a step finds the first, and goes to the others
unfoldable entries_at : List ℕ → ℕ → Option (List Entry)
entries_at s d = map (entries_from d) (elements (drop d s))

module _ (s : List ℕ) (d : ℕ) (e : Element) (t : List ℕ) (q : front (drop d s) ≡ first e t) where
  step_entry : (step_at s d).entry ≡ entry_of d e
  unfolding step_at on_front
  step_entry = rw q

  step_next : (step_at s d).next ≡ d + length (whole e)
  unfolding step_at on_front
  step_next = rw q

  drop_next : drop (step_at s d).next s ≡ t
  drop_next = rw step_next (sym (drop-drop (length (whole e)) d s) ∙ rw (front_within (drop d s) e t q) (drop_at (whole e) t (length (whole e)) refl))

module _ (s : List ℕ) (d : ℕ) (x : Entry) (xs : List Entry) where
  uncons_at : (es : List Element) → elements (drop d s) ≡ some es → entries_from d es ≡ x ∷ xs → ((step_at s d).entry ≡ x) × (entries_at s (step_at s d).next ≡ some xs)
  unfolding entries_at entries_from
  uncons_at [] p h = absurd (let z : ◌≡◌ {A = ℕ} 0 1 = cc in omega arith)
  uncons_at (e ∷ es) p h =
      let (t, q, rest) = elements_next (drop d s) e es p in
      let a : entry_of d e ≡ x = cc in
      let b : entries_from (d + length (whole e)) es ≡ xs = cc in
      (step_entry s d e t q ∙ a, rw (drop_next s d e t q, rest, step_next s d e t q) (ap some b))

  uncons : entries_at s d ≡ some (x ∷ xs) → ((step_at s d).entry ≡ x) × (entries_at s (step_at s d).next ≡ some xs)
  unfolding entries_at
  uncons h = go (elements (drop d s)) refl h
    where
      go : (o : Option (List Element)) → elements (drop d s) ≡ o → map (entries_from d) o ≡ some (x ∷ xs) → ((step_at s d).entry ≡ x) × (entries_at s (step_at s d).next ≡ some xs)
      go none e h = absurd (let z : ◌≡◌ {A = ℕ} 0 1 = cc in omega arith)
      go (some es) e h = uncons_at es e (cc)

-- ---- what is stored, where xs are the entries of the data
module _ (s : List ℕ) (ys xs : List Entry) (all : entries_at s 0 ≡ some xs) (room : length xs ≤ length ys) where
  -- where those from the place on are not stored yet, the step there finds the next of them
  turn : (i : ℕ) → i < length xs → entries_at s (spot s i) ≡ some (drop i xs) → ((step_at s (spot s i)).entry ≡ get_or xs i no_entry) × (entries_at s (spot s (suc i)) ≡ some (drop (suc i) xs))
  turn i h p = uncons s (spot s i) (get_or xs i no_entry) (drop (suc i) xs) (p ∙ ap some (drop-cons xs i no_entry h))

  ahead : (i : ℕ) → i ≤ length xs → entries_at s (spot s i) ≡ some (drop i xs)
  ahead zero h = all
  ahead (suc i) h = (turn i h (ahead i (omega arith))).1

  filled_to : (i : ℕ) → i ≤ length xs → fill s ys i ≡ take i xs ++ drop i ys
  filled_to zero h = refl
  filled_to (suc i) h =
      let l : length (take i xs) ≡ i = length-take-le i xs (omega arith) in
      rw (filled_to i (omega arith), (turn i h (ahead i (omega arith))).0, drop-cons ys i no_entry (omega arith), set_at (take i xs) (get_or ys i no_entry) (drop (suc i) ys) (get_or xs i no_entry) i l)
      (sym (ap (λ (l : List Entry). l ++ drop (suc i) ys) (take-suc xs i no_entry h) ∙ append_assoc (take i xs) (get_or xs i no_entry ∷ []) (drop (suc i) ys)))

-- ---- the answer says how many entries are stored, and the table is then document 01's
abbrev pub stored_by : Result ℕ Refusal → ℕ
stored_by x = result_unwrap_or x 0

length_entries_from : (d : ℕ) (es : List Element) → length (entries_from d es) ≡ length es
unfolding entries_from
length_entries_from d [] = refl
length_entries_from d (e ∷ es) = ap suc (length_entries_from (d + length (whole e)) es)

pub stored_fits : (s : List ℕ) (room : ℕ) → stored_by (count_of (cut room s)) ≤ room
unfolding count_of
stored_fits s room = go (cut room s) refl
  where
    go : (c : Cut) → cut room s ≡ c → stored_by (count_of c) ≤ room
    go (refused n) e = omega arith
    go (taken es) e = (taken_is room s es e).room

module _ (s : List ℕ) (ys : List Entry) where
  filled_taken : (es : List Element) → Taken (length ys) s es → fill s ys (length es) ≡ entries_from 0 es ++ drop (length es) ys
  unfolding entries_at
  filled_taken es h =
      let l = length_entries_from 0 es in
      filled_to s ys (entries_from 0 es) (rw h.are) (omega (arith, h.room, l)) (length es) (omega (arith, l))
      ∙ ap (λ (t : List Entry). t ++ drop (length es) ys) (take_all (length es) (entries_from 0 es) (omega (arith, l)))

  pub filled : fill s ys (stored_by (count_of (cut (length ys) s))) ≡ table_after s ys
  unfolding table_after count_of filled_by
  filled = go (cut (length ys) s) refl
    where
      go : (c : Cut) → cut (length ys) s ≡ c → fill s ys (stored_by (count_of c)) ≡ filled_by c ys
      go (refused n) e = refl
      go (taken es) e = filled_taken es (taken_is (length ys) s es e)
