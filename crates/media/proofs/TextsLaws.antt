-- Laws of the texts that a `Texts` holds: by how many there are.
-- Assumes nothing.
use Prim.Native.Nat.{ℕ, suc, ◌+◌, ◌≤◌, ◌<◌}
use mathlib.Core.Path.{◌≡◌, refl, sym, ap}
use mathlib.Core.List.{List, [], ◌∷◌, ◌++◌, map}
use mathlib.Core.Bool.{true, false}
use lib.ListN.{length, set, length-take}
use lib.Seq.{take_all}
use lib.Dec.{ltb}
use native.Mathlib.Omega.{arith}
use Rattle.std.proofs.lemmas.List.{take_more_set}
use borrow.Author.Tests.{lt-ltb, le-ltb}
use Rattle.octets.specs.declared.Span.{Span}
use Rattle.octets.specs.Spans.{text_of}
use Rattle.media.specs.declared.Texts.{Texts}
use Rattle.media.specs.Meaning.{spans_of, texts_by}

-- ---- how many there are, and one more
module _ (x : Texts) (h : length x.spans ≡ 3) (f : length (spans_of x) < 3) where
  pub count_few : x.count < 3
  unfolding spans_of
  count_few = omega (arith, length-take x.count x.spans)

  pub with_one : (sp : Span) → spans_of (record { count = x.count + 1; spans = set x.spans x.count sp }) ≡ spans_of x ++ (sp ∷ [])
  unfolding spans_of
  with_one sp = take_more_set x.spans x.count sp (omega (arith, count_few))

pub spans_all : (x : Texts) → length x.spans ≤ x.count → x.spans ≡ spans_of x
unfolding spans_of
spans_all x h = sym (take_all x.count x.spans h)

-- ---- the texts that they stand for
pub map_snoc : (f : Span → List ℕ) (xs : List Span) (sp : Span) → map f (xs ++ (sp ∷ [])) ≡ map f xs ++ (f sp ∷ [])
map_snoc f [] sp = refl
map_snoc f (x ∷ xs) sp = ap (λ (l : List (List ℕ)). f x ∷ l) (map_snoc f xs sp)

length_map : (f : Span → List ℕ) (xs : List Span) → length (map f xs) ≡ length xs
length_map f [] = refl
length_map f (x ∷ xs) = ap suc (length_map f xs)

-- n, the number of texts, against the most
module _ (m : List ℕ) (x : Texts) (n : ℕ) (e : n ≡ length (spans_of x)) where
  pub room : n < 3 → ltb (length (texts_by m x)) 3 ≡ true
  unfolding texts_by
  room h = rw (length_map (text_of m) (spans_of x), ← e) (lt-ltb n 3 h)

  pub no_room : 3 ≤ n → ltb (length (texts_by m x)) 3 ≡ false
  unfolding texts_by
  no_room h = rw (length_map (text_of m) (spans_of x), ← e) (le-ltb n 3 h)
