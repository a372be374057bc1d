-- Laws of `has`, `before`, `find_at` and `split_on`: by induction on the list, each step by whether its first octet is the separator.
-- Assumes nothing.
use Prim.Native.Nat.{ℕ, suc, ◌+◌, ◌-◌, ◌≤◌, ◌<◌}
use mathlib.Core.Path.{◌≡◌, refl, sym, ap, ◌∙◌}
use mathlib.Core.List.{List, [], ◌∷◌, ◌++◌}
use mathlib.Core.Bool.{true, false, true≢false}
use lib.ListN.{length, get_or, take, drop, length-drop, drop_of_length-le}
use lib.Seq.{drop-drop}
use native.Mathlib.Nat.{add-zero}
use native.Mathlib.Numerals.{add-one}
use native.Mathlib.Omega.{arith}
use lib.Dec.{ltb}
use borrow.Author.Tests.{eq-eqb, ne_eqb, lt-ltb, le-ltb}
use Rattle.octets.specs.Split.{has, before, on_first, split_on, find_at, Found}
use Rattle.octets.proofs.CaseLaws.{by_eq, by_bool}
use Rattle.octets.proofs.Laws.{next}

pub before_here : (c b : ℕ) (bs : List ℕ) → b ≡ c → before c (b ∷ bs) ≡ []
unfolding before
before_here c b bs e = simp (eq-eqb b c e)

pub before_more : (c b : ℕ) (bs : List ℕ) → (b ≡ c → ⊥) → before c (b ∷ bs) ≡ b ∷ before c bs
unfolding before
before_more c b bs e = simp (ne_eqb b c e)

pub length_before : (c : ℕ) (s : List ℕ) → length (before c s) ≤ length s
unfolding before
length_before c [] = omega arith
length_before c (b ∷ bs) =
    let h = length_before c bs in
    by_eq b c _ (λ e. rw (before_here c b bs e) (omega arith)) (λ e. rw (before_more c b bs e) (omega arith))

-- the search, at position i; x is its answer
module _ (s : List ℕ) (c i x : ℕ) (inv : find_at s c i ≡ x) where
  pub find_found : i < length s → get_or s i 0 ≡ c → i ≡ x
  unfolding find_at
  find_found h e = rw (next s i h, before_here c (get_or s i 0) (drop (i + 1) s) e, add-zero) at inv

  pub find_more : i < length s → (get_or s i 0 ≡ c → ⊥) → find_at s c (i + 1) ≡ x
  unfolding find_at
  find_more h e =
      let k : i + suc (length (before c (drop (i + 1) s))) ≡ x = rw (next s i h, before_more c (get_or s i 0) (drop (i + 1) s) e) at inv in
      omega arith

  pub find_past : length s ≤ i → i ≡ x
  unfolding find_at before
  find_past h = rw (drop_of_length-le s h, add-zero) at inv

-- four at a time: no c is among the octets that were looked at
module _ (s : List ℕ) (c i x : ℕ) (inv : find_at s c i ≡ x) (stop : ℕ) (is : stop ≡ length s - 3) (low : i < stop) (a : get_or s i 0 ≡ c → ⊥) where
  pub four_1 : find_at s c (i + 1) ≡ x
  four_1 = find_more s c i x inv (omega arith) a

  module _ (b : get_or s (i + 1) 0 ≡ c → ⊥) where
    pub four_2 : find_at s c (i + 2) ≡ x
    four_2 = let z : i + 1 + 1 ≡ i + 2 = omega arith in rw z at (find_more s c (i + 1) x four_1 (omega arith) b)

    module _ (d : get_or s (i + 2) 0 ≡ c → ⊥) where
      pub four_3 : find_at s c (i + 3) ≡ x
      four_3 = let z : i + 2 + 1 ≡ i + 3 = omega arith in rw z at (find_more s c (i + 2) x four_2 (omega arith) d)

      pub four_4 : (get_or s (i + 3) 0 ≡ c → ⊥) → find_at s c (i + 4) ≡ x
      four_4 e = let z : i + 3 + 1 ≡ i + 4 = omega arith in rw z at (find_more s c (i + 3) x four_3 (omega arith) e)

pub ruleset fours = (four_1, four_2, four_3, four_4)

pub found : (s : List ℕ) (c from r : ℕ) → r ≡ find_at s c from → Found s c from r
unfolding find_at
found s c from r e =
    let h = length_before c (drop from s) in
    let k = length-drop from s in
    record { is = e; low = omega arith; high = omega arith }

pub ruleset finding = (found, find_found, find_more, find_past)

-- the first c of all
pub found_first : (s : List ℕ) (c e : ℕ) → Found s c 0 e → e ≡ length (before c s)
unfolding find_at
found_first s c e f = let z : e ≡ 0 + length (before c (drop 0 s)) = f.is in omega arith

pub take_before : (c : ℕ) (s : List ℕ) → take (length (before c s)) s ≡ before c s
unfolding before
take_before c [] = refl
take_before c (b ∷ bs) =
    by_eq b c _ (λ e. rw (before_here c b bs e)) (λ e. rw (before_more c b bs e) (ap (λ (l : List ℕ). b ∷ l) (take_before c bs)))

pub split_here : (c b : ℕ) (bs : List ℕ) → b ≡ c → split_on c (b ∷ bs) ≡ [] ∷ split_on c bs
unfolding split_on
split_here c b bs e = simp (eq-eqb b c e)

pub split_more : (c b : ℕ) (bs : List ℕ) → (b ≡ c → ⊥) → split_on c (b ∷ bs) ≡ on_first b (split_on c bs)
unfolding split_on
split_more c b bs e = simp (ne_eqb b c e)

pub length_first : (b : ℕ) (ps : List (List ℕ)) → 0 < length ps → length (on_first b ps) ≡ length ps
unfolding on_first
length_first b [] h = absurd (omega arith)
length_first b (p ∷ ps) h = refl

-- there is always a part
pub split_some : (c : ℕ) (s : List ℕ) → 0 < length (split_on c s)
unfolding split_on
split_some c [] = omega arith
split_some c (b ∷ bs) =
    by_eq b c _
    (λ e. rw (eq-eqb b c e) (omega arith))
    (λ e. rw (ne_eqb b c e, length_first b (split_on c bs) (split_some c bs)) (split_some c bs))

pub split_last : (c : ℕ) (s : List ℕ) → length s ≤ length (before c s) → split_on c s ≡ before c s ∷ []
unfolding before split_on on_first
split_last c [] h = refl
split_last c (b ∷ bs) h =
    by_eq b c _
    (λ e. absurd (let k : suc (length bs) ≤ 0 = rw (before_here c b bs e) at h in omega arith))
    (λ e. let k : suc (length bs) ≤ suc (length (before c bs)) = rw (before_more c b bs e) at h in rw (before_more c b bs e, split_more c b bs e, split_last c bs (omega arith)))

pub split_dot : (c : ℕ) (s : List ℕ) → length (before c s) < length s → split_on c s ≡ before c s ∷ split_on c (drop (length (before c s) + 1) s)
unfolding before split_on on_first
split_dot c [] h = absurd (omega arith)
split_dot c (b ∷ bs) h =
    by_eq b c _
    (λ e. rw (before_here c b bs e, split_here c b bs e))
    (λ e. let k : suc (length (before c bs)) < suc (length bs) = rw (before_more c b bs e) at h in
    rw (before_more c b bs e, split_more c b bs e, split_dot c bs (omega arith)) (simp add-one))

-- the part of s that starts at i and ends at e
module _ (s : List ℕ) (c i e : ℕ) (is : e ≡ find_at s c i) where
  pub part_is : take (e - i) (drop i s) ≡ before c (drop i s)
  unfolding find_at
  part_is =
      let k : e - i ≡ length (before c (drop i s)) = omega (arith, is) in
      rw k (take_before c (drop i s))

  pub part_dot : e < length s → split_on c (drop i s) ≡ before c (drop i s) ∷ split_on c (drop (e + 1) s)
  unfolding find_at
  part_dot h =
      let k : i + (length (before c (drop i s)) + 1) ≡ e + 1 = omega (arith, is) in
      split_dot c (drop i s) (omega (arith, is, length-drop i s))
      ∙ rw (drop-drop (length (before c (drop i s)) + 1) i s, k)

  pub part_last : length s ≤ e → split_on c (drop i s) ≡ before c (drop i s) ∷ []
  unfolding find_at
  part_last h = split_last c (drop i s) (omega (arith, is, length-drop i s))

pub has_before : (c : ℕ) (s : List ℕ) → has c s ≡ true → length (before c s) < length s
unfolding has before
has_before c [] h = let z : ◌≡◌ {A = ℕ} 0 1 = cc in absurd (omega arith)
has_before c (b ∷ bs) h =
    by_eq b c _
    (λ e. rw (before_here c b bs e) (omega arith))
    (λ e. let k = has_before c bs (rw (ne_eqb b c e) at h) in rw (before_more c b bs e) (omega arith))

pub has_not : (c : ℕ) (s : List ℕ) → has c s ≡ false → before c s ≡ s
unfolding has before
has_not c [] h = refl
has_not c (b ∷ bs) h =
    by_eq b c _
    (λ e. let k : true ≡ false = rw (eq-eqb b c e) at h in let z : ◌≡◌ {A = ℕ} 0 1 = cc in absurd (omega arith))
    (λ e. rw (before_more c b bs e) (ap (λ (l : List ℕ). b ∷ l) (has_not c bs (rw (ne_eqb b c e) at h))))

-- c is among s exactly where the part before it is shorter
pub has_ltb : (c : ℕ) (s : List ℕ) → has c s ≡ ltb (length (before c s)) (length s)
has_ltb c s =
    by_bool (has c s) _
    (λ h. h ∙ sym (lt-ltb (length (before c s)) (length s) (has_before c s h)))
    (λ h. h ∙ sym (le-ltb (length (before c s)) (length s) (omega (arith, ap length (has_not c s h)))))

-- c is neither the first octet nor among the others
pub has_cons : (c b : ℕ) (bs : List ℕ) (X : Type 0) → has c (b ∷ bs) ≡ false → ((b ≡ c → ⊥) → has c bs ≡ false → X) → X
unfolding has
has_cons c b bs X h go =
    by_eq b c _
    (λ e. absurd (let k : true ≡ false = rw (eq-eqb b c e) at h in true≢false k))
    (λ e. go e (rw (ne_eqb b c e) at h))

-- a text without c, alone and before a c
pub split_whole : (c : ℕ) (xs : List ℕ) → has c xs ≡ false → split_on c xs ≡ xs ∷ []
split_whole c xs h =
    let e : before c xs ≡ xs = has_not c xs h in
    split_last c xs (rw e (omega arith)) ∙ rw e

pub split_append : (c : ℕ) (xs ys : List ℕ) → has c xs ≡ false → split_on c (xs ++ (c ∷ ys)) ≡ xs ∷ split_on c ys
unfolding on_first
split_append c [] ys h = split_here c c ys refl
split_append c (b ∷ bs) ys h = has_cons c b bs _ h (λ e r. split_more c b (bs ++ (c ∷ ys)) e ∙ ap (on_first b) (split_append c bs ys r))
