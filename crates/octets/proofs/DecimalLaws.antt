-- Laws of `number_from`, `read_number` and `on_number`, one for each way that the code can go: each test of the code gives the definition's test its value.
-- Assumes nothing.
use Prim.Native.Nat.{ℕ, ◌+◌, ◌-◌, ◌*◌, ◌≤◌, ◌<◌}
use mathlib.Core.Path.{◌≡◌, refl, sym, ap, ◌∙◌}
use mathlib.Core.List.{List, [], ◌∷◌}
use mathlib.Core.Bool.{true, false, ◌&&◌, and-false}
use lib.ListN.{length, get_or, drop, drop_of_length-le}
use native.Mathlib.Nat.{le_trans, le_refl}
use native.Mathlib.Omega.{arith}
use lib.Dec.{leb}
use borrow.Author.Tests.{le-leb, lt-leb, eq-eqb, ne_eqb}
use Rattle.std.specs.declared.option.Option.{Option}
use Rattle.std.specs.declared.option.Option.TheVariants.{Some, None}
use Rattle.octets.specs.Decimal.{is_digit, all_digits, value_from, shortest, number_from, read_number, on_number}
use Rattle.octets.proofs.CaseLaws.{by_eq, by_lt, by_bool}
use Rattle.octets.proofs.Laws.{next}

from_digit : (n b : ℕ) (bs : List ℕ) → is_digit b ≡ true → number_from n (b ∷ bs) ≡ number_from (n * 10 + (b - 48)) bs
unfolding number_from all_digits value_from
from_digit n b bs p = simp p

-- more digits make no number smaller
pub value_grows : (n : ℕ) (s : List ℕ) → n ≤ value_from n s
unfolding value_from
value_grows n [] = le_refl n
value_grows n (b ∷ bs) = le_trans (omega arith) (value_grows (n * 10 + (b - 48)) bs)

from_large : (n : ℕ) (s : List ℕ) → 65535 < n → number_from n s ≡ None
unfolding number_from
from_large n s p = simp (lt-leb (value_from n s) 65535 (omega (arith, value_grows n s)), and-false)

-- The same at a position: what was read so far is n, and `number_from n` of the rest is the answer x.
module _ (s : List ℕ) (i n : ℕ) (x : Option ℕ) (inv : number_from n (drop i s) ≡ x) where
  pub number_other : i < length s → is_digit (get_or s i 0) ≡ false → None ≡ x
  unfolding number_from all_digits
  number_other h p = rw (next s i h, p) at inv

  pub number_next : i < length s → is_digit (get_or s i 0) ≡ true → number_from (n * 10 + (get_or s i 0 - 48)) (drop (i + 1) s) ≡ x
  number_next h p = sym (from_digit n (get_or s i 0) (drop (i + 1) s) p) ∙ ap (number_from n) (sym (next s i h)) ∙ inv

  pub number_large : i < length s → is_digit (get_or s i 0) ≡ true → 65535 < n * 10 + (get_or s i 0 - 48) → None ≡ x
  number_large h p r = sym (from_large (n * 10 + (get_or s i 0 - 48)) (drop (i + 1) s) r) ∙ number_next h p

  -- the same by the ends of the range of digits
  pub number_low : i < length s → get_or s i 0 < 48 → None ≡ x
  unfolding is_digit
  number_low h p = number_other h (rw (lt-leb 48 (get_or s i 0) p))

  pub number_high : i < length s → 57 < get_or s i 0 → None ≡ x
  unfolding is_digit
  number_high h p = number_other h (rw (le-leb 48 (get_or s i 0) (omega arith), lt-leb (get_or s i 0) 57 p))

  pub number_digit : i < length s → 48 ≤ get_or s i 0 → get_or s i 0 ≤ 57 → number_from (n * 10 + (get_or s i 0 - 48)) (drop (i + 1) s) ≡ x
  unfolding is_digit
  number_digit h p q = number_next h (rw (le-leb 48 (get_or s i 0) p, le-leb (get_or s i 0) 57 q))

  pub number_end : length s ≤ i → n ≤ 65535 → Some n ≡ x
  unfolding number_from all_digits value_from
  number_end h p = rw (drop_of_length-le s h, le-leb n 65535 p) at inv

-- The whole text; x is the number of its digits, leading zeros or not.
pub read_none : (s : List ℕ) → length s ≡ 0 → None ≡ read_number s
unfolding read_number shortest
read_none [] h = refl
read_none (b ∷ bs) h = absurd (omega arith)

pub read_one : (s : List ℕ) (x : Option ℕ) → x ≡ number_from 0 s → (length s ≡ 0 → ⊥) → length s < 2 → x ≡ read_number s
unfolding read_number shortest
read_one [] x e z h = absurd (z refl)
read_one (b ∷ []) x e z h = e
read_one (b ∷ d ∷ bs) x e z h = absurd (omega arith)

pub read_zero : (s : List ℕ) → 2 ≤ length s → get_or s 0 0 ≡ 48 → None ≡ read_number s
unfolding read_number shortest
read_zero [] h z = absurd (omega arith)
read_zero (b ∷ []) h z = absurd (omega arith)
read_zero (b ∷ d ∷ bs) h z = simp (eq-eqb b 48 z)

pub read_more : (s : List ℕ) (x : Option ℕ) → x ≡ number_from 0 s → 2 ≤ length s → (get_or s 0 0 ≡ 48 → ⊥) → x ≡ read_number s
unfolding read_number shortest
read_more [] x e h z = absurd (omega arith)
read_more (b ∷ []) x e h z = absurd (omega arith)
read_more (b ∷ d ∷ bs) x e h z = simp (ne_eqb b 48 z) e

-- a number of four digits or more is 1,000 at least
number_told : (n : ℕ) (s : List ℕ) (m : ℕ) → number_from n s ≡ Some m → m ≡ value_from n s
unfolding number_from
number_told n s m e =
    by_bool (all_digits s && leb (value_from n s) 65535) _
    (λ b. let k : ◌≡◌ {A = Option ℕ} (Some (value_from n s)) (Some m) = rw b at e in cc)
    (λ b. let k : ◌≡◌ {A = Option ℕ} None (Some m) = rw b at e in let z : ◌≡◌ {A = ℕ} 0 1 = cc in absurd (omega arith))

number_starts : (n b : ℕ) (bs : List ℕ) (m : ℕ) → number_from n (b ∷ bs) ≡ Some m → 48 ≤ b
unfolding number_from all_digits is_digit
number_starts n b bs m e =
    by_lt b 48 _
    (λ l. let k : ◌≡◌ {A = Option ℕ} None (Some m) = rw (lt-leb 48 b l) at e in let z : ◌≡◌ {A = ℕ} 0 1 = cc in absurd (omega arith))
    (λ l. l)

pub number_long : (s : List ℕ) → 4 ≤ length s → (n : ℕ) → read_number s ≡ Some n → 1000 ≤ n
unfolding read_number shortest value_from
number_long [] h n e = absurd (omega arith)
number_long (a ∷ []) h n e = absurd (omega arith)
number_long (a ∷ b ∷ []) h n e = absurd (omega arith)
number_long (a ∷ b ∷ c ∷ []) h n e = absurd (omega arith)
number_long (a ∷ b ∷ c ∷ d ∷ s) h n e =
    by_eq a 48 _
    (λ z. let k : ◌≡◌ {A = Option ℕ} None (Some n) = rw (eq-eqb a 48 z) at e in let w : ◌≡◌ {A = ℕ} 0 1 = cc in absurd (omega arith))
    (λ z.
    let k : number_from 0 (a ∷ b ∷ c ∷ d ∷ s) ≡ Some n = rw (ne_eqb a 48 z) at e in
    let low : 48 ≤ a = number_starts 0 a (b ∷ c ∷ d ∷ s) n k in
    let is : n ≡ value_from 0 (a ∷ b ∷ c ∷ d ∷ s) = number_told 0 (a ∷ b ∷ c ∷ d ∷ s) n k in
    let more = value_grows ((((0 * 10 + (a - 48)) * 10 + (b - 48)) * 10 + (c - 48)) * 10 + (d - 48)) s in
    let first : (a ≡ 48 → ⊥) = z in
    by_lt 48 a _ (λ l. omega (arith, is, more)) (λ l. absurd (first (omega arith))))

pub ruleset reading = (read_none, read_one, read_zero, read_more)

-- By cases on a number z that may be missing and that the code has as y.
pub on_value : {X : Type 0} (y z : Option ℕ) (n : ℕ) (go : ℕ → X) (bad x : X) → y ≡ z → y ≡ Some n → x ≡ go n → x ≡ on_number z go bad
unfolding on_number
on_value y z n go bad x p q r = rw (← p, q) r

pub on_bad : {X : Type 0} (y z : Option ℕ) (go : ℕ → X) (bad x : X) → y ≡ z → y ≡ None → x ≡ bad → x ≡ on_number z go bad
unfolding on_number
on_bad y z go bad x p q r = rw (← p, q) r

pub ruleset on_numbers = (on_value, on_bad)
