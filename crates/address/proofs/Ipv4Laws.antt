-- Laws of reading IPv4: a part is the text up to the next dot, which is where `split_on` cuts; each part that is read leaves one fewer to come.
-- Assumes nothing.
use Prim.Native.Nat.{ℕ, zero, suc, ◌+◌, ◌-◌, ◌*◌, ◌^◌, ◌≤◌, ◌<◌}
use mathlib.Core.Path.{◌≡◌, refl, sym, ap, ◌∙◌}
use mathlib.Core.List.{List, [], ◌∷◌, map}
use mathlib.Core.Bool.{false, ◌&&◌, cond, and-false}
use lib.ListN.{length, take, drop}
use lib.Seq.{take_all, length-take-le}
use lib.Dec.{leb, eqb}
use native.Mathlib.Nat.{pow-le-pow_right}
use native.Mathlib.Numerals.{add-one}
use native.Mathlib.Omega.{arith}
use borrow.Author.Tests.{le-leb, lt-leb, eq-eqb, ne_eqb}
use Rattle.std.specs.declared.option.Option.{Option}
use Rattle.std.specs.declared.option.Option.TheVariants.{Some, None}
use Rattle.octets.specs.Split.{before, split_on, find_at, Found}
use Rattle.octets.specs.Decimal.{read_number, on_number}
use Rattle.octets.proofs.CaseLaws.{by_eq, by_lt}
use Rattle.octets.proofs.SplitLaws.{before_here, before_more, found_first, take_before, split_some, part_is, part_dot, part_last}
use Rattle.octets.proofs.DecimalLaws.{number_long}
use Rattle.address.specs.declared.Address.{Address}
use Rattle.address.specs.declared.Address.TheVariants.{V4}
use Rattle.address.specs.declared.ipv4.Part.{Part}
use Rattle.address.specs.Kinds.{if_unicast}
use Rattle.address.specs.Parts.{all_parts, in_base}
use Rattle.address.specs.Ipv4.{is_octet, octet_value, is_dotted, dotted_value, read_v4}
use Rattle.address.specs.Private.{octet_to, octet_at}
use Rattle.address.proofs.PartLaws.{next_below}

-- ---- one part
-- Its text starts at i and ends at e, and y is what `read_number` answered on it.
module _ (s : List ℕ) (i e : ℕ) (is : e ≡ find_at s 46 i) (y : Option ℕ) (r : y ≡ read_number (take (e - i) (drop i s))) where
  number_is : (z : Option ℕ) → y ≡ z → octet_to e z ≡ octet_at s i
  unfolding octet_at
  number_is z q = rw (← is) (ap (octet_to e) (sym q ∙ r ∙ ap read_number (part_is s 46 i e is)))

  pub part_none : y ≡ None → None ≡ octet_at s i
  unfolding octet_to on_number
  part_none q = number_is None q

  module _ (n : ℕ) (q : y ≡ Some n) where
    pub part_large : 255 < n → None ≡ octet_at s i
    unfolding octet_to on_number
    part_large h = rw (lt-leb n 255 h) at (number_is (Some n) q)

    pub part_number : n ≤ 255 → Some (record { value = n; end = e }) ≡ octet_at s i
    unfolding octet_to on_number
    part_number h = rw (le-leb n 255 h) at (number_is (Some n) q)

pub ruleset part_read = (part_none, part_large, part_number)

-- ---- one part, of which four octets are looked at
before_take : (c n : ℕ) (s : List ℕ) → before c (take n s) ≡ take n (before c s)
unfolding before
before_take c zero s = refl
before_take c (suc n) [] = refl
before_take c (suc n) (b ∷ bs) =
    by_eq b c _
    (λ e. rw (before_here c b (take n bs) e, before_here c b bs e))
    (λ e. rw (before_more c b (take n bs) e, before_more c b bs e, before_take c n bs))

-- no number of four digits or more is an octet
octet_long : (f : ℕ) (p : List ℕ) → 4 ≤ length p → octet_to f (read_number p) ≡ None
unfolding octet_to on_number
octet_long f p h = go (read_number p) refl
  where
    go : (z : Option ℕ) → read_number p ≡ z → octet_to f z ≡ None
    go None q = refl
    go (Some n) q = let l : 1000 ≤ n = number_long p h n q in rw (lt-leb n 255 (omega arith))

-- Its text starts at i; `near` are four octets from there on, of which e are before a dot.
module _ (s : List ℕ) (i : ℕ) (near : List ℕ) (are : near ≡ take 4 (drop i s)) (e : ℕ) (f : Found near 46 0 e) where
  abbrev text : List ℕ
  text = before 46 (drop i s)

  near_text : before 46 near ≡ take 4 text
  near_text = rw are (before_take 46 4 (drop i s))

  digits_are : e ≡ length (take 4 text)
  digits_are = found_first near 46 e f ∙ ap length near_text

  pub part_long : 3 < e → None ≡ octet_at s i
  unfolding octet_at
  part_long h =
      let l : 4 ≤ length text =
      by_lt (length text) 4 _
      (λ k. let z : take 4 text ≡ text = take_all 4 text (omega arith) in absurd (omega (arith, digits_are, ap length z)))
      (λ k. k)
      in
      sym (octet_long (find_at s 46 i) text l)

  module _ (few : e ≤ 3) where
    short : length text ≤ 4
    short = by_lt 4 (length text) _ (λ l. absurd (omega (arith, digits_are, length-take-le 4 text (omega arith)))) (λ l. l)

    whole_text : take e near ≡ text
    whole_text = rw (found_first near 46 e f) (take_before 46 near) ∙ near_text ∙ take_all 4 text short

    ends_there : i + e ≡ find_at s 46 i
    unfolding find_at
    ends_there = rw (digits_are, take_all 4 text short)

    -- y is what `read_number` answered on it
    module _ (y : Option ℕ) (r : y ≡ read_number (take e near)) where
      read_whole : y ≡ read_number (take (i + e - i) (drop i s))
      read_whole = r ∙ ap read_number (whole_text ∙ sym (part_is s 46 i (i + e) ends_there))

      pub near_none : y ≡ None → None ≡ octet_at s i
      near_none = part_none s i (i + e) ends_there y read_whole

      module _ (n : ℕ) (q : y ≡ Some n) where
        pub near_large : 255 < n → None ≡ octet_at s i
        near_large = part_large s i (i + e) ends_there y read_whole n q

        pub near_number : n ≤ 255 → Some (record { value = n; end = i + e }) ≡ octet_at s i
        near_number = part_number s i (i + e) ends_there y read_whole n q

pub ruleset near_read = (part_long, near_none, near_large, near_number)

octet_told : (f : ℕ) (p : Part) (z : Option ℕ) → octet_to f z ≡ Some p → (z ≡ Some p.value) × (p.value ≤ 255) × (p.end ≡ f)
unfolding octet_to on_number
octet_told f p (Some w) q =
    by_lt 255 w _
    (λ h. let k : ◌≡◌ {A = Option Part} None (Some p) = rw (lt-leb w 255 h) at q in let z : ◌≡◌ {A = ℕ} 0 1 = cc in absurd (omega arith))
    (λ h.
    let k : ◌≡◌ {A = Option Part} (Some (record { value = w; end = f })) (Some p) = rw (le-leb w 255 h) at q in
    let m : (let u : Part = record { value = w; end = f } in u) ≡ p = cc in
    let v : w ≡ p.value = ap (λ (u : Part). u.value) m in
    (ap Some v, omega arith, sym (ap (λ (u : Part). u.end) m)))
octet_told f p None q = let z : ◌≡◌ {A = ℕ} 0 1 = cc in absurd (omega arith)

-- ---- the four parts
-- n, and then k parts, each the text of an octet
unfoldable pub octets_from : ℕ → ℕ → List (List ℕ) → Option Address
octets_from k n ps = cond (all_parts is_octet ps && eqb (length ps) k) (if_unicast (V4 (in_base 256 n (map octet_value ps)))) None

eqb_suc : (a b : ℕ) → eqb (suc a) (suc b) ≡ eqb a b
eqb_suc a b =
    by_eq a b _
    (λ e. rw (eq-eqb a b e, eq-eqb (suc a) (suc b) (ap suc e)))
    (λ e. rw (ne_eqb a b e, ne_eqb (suc a) (suc b) (λ z. e (omega arith))))

octets_good : (k n f : ℕ) (y : Part) (p : List ℕ) (ps : List (List ℕ)) → octet_to f (read_number p) ≡ Some y → octets_from (suc k) n (p ∷ ps) ≡ octets_from k (n * 256 + y.value) ps
unfolding octets_from all_parts is_octet octet_value in_base on_number
octets_good k n f y p ps q =
    let (w, m, d) = octet_told f y (read_number p) q in
    rw (w, le-leb y.value 255 m, eqb_suc (length ps) k)

not_octet : (f : ℕ) (z : Option ℕ) → octet_to f z ≡ None → on_number z (λ n. leb n 255) false ≡ false
unfolding octet_to on_number
not_octet f (Some w) q =
    by_lt 255 w _
    (λ h. lt-leb w 255 h)
    (λ h. let p : ◌≡◌ {A = Option Part} (Some (record { value = w; end = f })) None = rw (le-leb w 255 h) at q in let z : ◌≡◌ {A = ℕ} 0 1 = cc in absurd (omega arith))
not_octet f None q = refl

octets_bad : (k n f : ℕ) (p : List ℕ) (ps : List (List ℕ)) → octet_to f (read_number p) ≡ None → octets_from k n (p ∷ ps) ≡ None
unfolding octets_from all_parts is_octet
octets_bad k n f p ps q = rw (not_octet f (read_number p) q)

octets_short : (k n : ℕ) → octets_from (suc k) n [] ≡ None
unfolding octets_from all_parts
octets_short k n = rw (ne_eqb 0 (suc k) (λ z. omega arith))

octets_long : (n : ℕ) (s : List ℕ) → octets_from 0 n (split_on 46 s) ≡ None
unfolding octets_from
octets_long n s = rw (ne_eqb (length (split_on 46 s)) 0 (λ z. omega (arith, split_some 46 s)), and-false)

octets_end : (n : ℕ) → octets_from 0 n [] ≡ if_unicast (V4 n)
unfolding octets_from all_parts in_base
octets_end n = refl

pub octets_start : (s : List ℕ) → octets_from 4 0 (split_on 46 (drop 0 s)) ≡ read_v4 s
unfolding octets_from read_v4 is_dotted dotted_value
octets_start s = refl

-- One part: y is what `read_part` answered at i, and k parts come from i on; x is the answer.
module _ (s : List ℕ) (i k n : ℕ) (x : Option Address) (inv : octets_from k n (split_on 46 (drop i s)) ≡ x) (y : Option Part) (r : y ≡ octet_at s i) where
  read_as : (z : Option Part) → y ≡ z → octet_to (find_at s 46 i) (read_number (before 46 (drop i s))) ≡ z
  unfolding octet_at
  read_as z q = sym r ∙ q

  pub step_bad : y ≡ None → None ≡ x
  step_bad q =
      by_lt (find_at s 46 i) (length s) _
      (λ h. sym (octets_bad k n _ _ _ (read_as None q)) ∙ ap (octets_from k n) (sym (part_dot s 46 i (find_at s 46 i) refl h)) ∙ inv)
      (λ h. sym (octets_bad k n _ _ _ (read_as None q)) ∙ ap (octets_from k n) (sym (part_last s 46 i (find_at s 46 i) refl h)) ∙ inv)

  module _ (p : Part) (q : y ≡ Some p) where
    ends_at : p.end ≡ find_at s 46 i
    ends_at = (octet_told (find_at s 46 i) p (read_number (before 46 (drop i s))) (read_as (Some p) q)).2

    pub value_small : p.value ≤ 255
    value_small = (octet_told (find_at s 46 i) p (read_number (before 46 (drop i s))) (read_as (Some p) q)).1

    module _ (j : ℕ) (m : k ≡ suc j) where
      inv₁ : octets_from (suc j) n (split_on 46 (drop i s)) ≡ x
      inv₁ = rw m at inv

      pub step_dot : p.end < length s → octets_from j (n * 256 + p.value) (split_on 46 (drop (p.end + 1) s)) ≡ x
      step_dot h =
          sym (octets_good j n _ p _ _ (read_as (Some p) q))
          ∙ ap (octets_from (suc j) n) (sym (part_dot s 46 i p.end ends_at h)) ∙ inv₁

      step_end : length s ≤ p.end → octets_from j (n * 256 + p.value) [] ≡ x
      step_end h =
          sym (octets_good j n _ p _ _ (read_as (Some p) q))
          ∙ ap (octets_from (suc j) n) (sym (part_last s 46 i p.end ends_at h)) ∙ inv₁

    -- more parts were to come, and the text ends
    pub step_short : 1 < k → length s ≤ p.end → None ≡ x
    step_short m h = sym (octets_short (k - 2) _) ∙ step_end (suc (k - 2)) (omega arith) h

    -- this was to be the last part
    module _ (m : k ≡ 1) where
      pub step_long : p.end < length s → None ≡ x
      step_long h = sym (octets_long _ (drop (p.end + 1) s)) ∙ step_dot 0 m h

      pub step_last : (a : Option Address) → length s ≤ p.end → a ≡ if_unicast (V4 (n * 256 + p.value)) → a ≡ x
      step_last a h e = e ∙ sym (octets_end _) ∙ step_end 0 m h

-- k parts stand for less than 256 ^ k
pub octets_next : (n k v : ℕ) → n < 256 ^ k → v ≤ 255 → n * 256 + v < 256 ^ (k + 1)
octets_next n k v h m = rw add-one (next_below 256 n k v h (omega arith))

pub octets_below : (n k : ℕ) → n < 256 ^ k → k ≤ 3 → n < 2 ^ 24
octets_below n k h p =
    let m : 256 ^ k ≤ 256 ^ 3 = pow-le-pow_right {n = 256} (omega arith) {i = k} {j = 3} (omega arith) in
    omega arith
