-- What is written as text is read back as itself. A number is its last digits, as many as it has; an octet is its two digits.
-- Assumes nothing.
use Prim.Native.Nat.{ℕ, zero, suc, ◌+◌, ◌-◌, ◌*◌, ◌/◌, ◌%◌, ◌^◌, ◌≤◌, ◌<◌}
use mathlib.Core.Path.{◌≡◌, refl, sym, ap, ◌∙◌}
use mathlib.Core.List.{List, [], ◌∷◌, ◌++◌}
use mathlib.Core.Bool.{Bool, true, false, ◌&&◌, true≢false, and-true, and_assoc, and-eq-true_iff}
use lib.ListN.{length, get_or}
use native.Mathlib.Nat.{pow-suc}
use native.Mathlib.Omega.{arith}
use borrow.Author.Tests.{lt-ltb, le-ltb, le-leb, lt-leb, ne_eqb}
use Rattle.std.specs.declared.option.Option.TheVariants.{Some}
use Rattle.octets.specs.Append.{width_from, number_text}
use Rattle.octets.specs.Decimal.{is_digit, all_digits, value_from, shortest, number_from, read_number, last_digits}
use Rattle.octets.specs.Hex.{hex_value, hex_octets, hex_digit, hex_text}
use Rattle.octets.specs.Split.{has}
use Rattle.octets.proofs.CaseLaws.{by_eq, by_lt}
use Rattle.octets.proofs.AppendLaws.{width_one, width_suc}

all_snoc : (xs : List ℕ) (b : ℕ) → all_digits (xs ++ (b ∷ [])) ≡ (all_digits xs && is_digit b)
unfolding all_digits
all_snoc [] b = and-true (is_digit b)
all_snoc (x ∷ xs) b = ap (λ (t : Bool). is_digit x && t) (all_snoc xs b) ∙ sym (and_assoc (is_digit x) (all_digits xs) (is_digit b))

pub all_last : (k n : ℕ) → all_digits (last_digits k n) ≡ true
unfolding last_digits all_digits is_digit
all_last zero n = refl
all_last (suc k) n = simp (all_snoc, all_last k (n / 10), le-leb 48 (48 + n % 10) (omega arith), le-leb (48 + n % 10) 57 (omega arith))

-- an octet that is no digit is not among digits
digits_has : (c : ℕ) (s : List ℕ) → is_digit c ≡ false → all_digits s ≡ true → has c s ≡ false
unfolding has all_digits
digits_has c [] n e = refl
digits_has c (b ∷ bs) n e =
    let (p, q) = (and-eq-true_iff (is_digit b) (all_digits bs)).0 e in
    by_eq b c _
    (λ z. absurd (true≢false (sym p ∙ ap is_digit z ∙ n)))
    (λ z. rw (ne_eqb b c z) (digits_has c bs n q))

pub number_has : (c n : ℕ) → is_digit c ≡ false → has c (number_text n) ≡ false
unfolding number_text
number_has c n e = digits_has c (number_text n) e (all_last (width_from 19 n) n)

value_snoc : (m : ℕ) (xs : List ℕ) (b : ℕ) → value_from m (xs ++ (b ∷ [])) ≡ value_from m xs * 10 + (b - 48)
unfolding value_from
value_snoc m [] b = refl
value_snoc m (x ∷ xs) b = value_snoc (m * 10 + (x - 48)) xs b

value_last : (k n : ℕ) → n < 10 ^ k → value_from 0 (last_digits k n) ≡ n
unfolding last_digits value_from
value_last zero n h = omega arith
value_last (suc k) n h =
    let h' : n < 10 ^ k * 10 = rw pow-suc at h in
    let e = value_last k (n / 10) (omega arith) in
    value_snoc 0 (last_digits k (n / 10)) (48 + n % 10) ∙ omega arith

-- the digits that are counted hold the number, and twenty hold every number of 64 bits
width_holds : (e n : ℕ) → n < 10 ^ suc e → n < 10 ^ width_from e n
width_holds zero n h = rw (width_one zero n (let k : n < 10 ^ 0 * 10 = rw pow-suc at h in omega arith)) h
width_holds (suc e) n h =
    by_lt n 10 _
    (λ k. rw (width_one (suc e) n k) (let z : 10 ^ 1 ≡ 10 = refl in omega arith))
    (λ k. let q : n < 10 ^ suc e * 10 = rw pow-suc at h in
    let r = width_holds e (n / 10) (omega arith) in
    rw (width_suc e n k, pow-suc) (omega arith))

pub number_value : (n : ℕ) → n < 2 ^ 64 → value_from 0 (number_text n) ≡ n
unfolding number_text
number_value n h = value_last (width_from 19 n) n (width_holds 19 n (omega arith))

-- k digits that stand for n, the first not '0' unless it is alone, are read as n
last_back : (k n : ℕ) → n < 10 ^ k → n ≤ 65535 → shortest (last_digits k n) ≡ true → read_number (last_digits k n) ≡ Some n
unfolding read_number number_from
last_back k n h m s = simp (s, all_last k n, value_last k n h, le-leb n 65535 m)

-- a number as decimal text is read as that number
pub number_back : (n : ℕ) → n ≤ 65535 → read_number (number_text n) ≡ Some n
unfolding number_text shortest last_digits
number_back n m =
    by_lt n 10 _ (λ h. rw (width_one 19 n h) (last_back 1 n (omega arith) m refl)) λ g.
    rw (width_suc 18 n g)
    (by_lt n 100 _
    (λ h. rw (width_one 18 (n / 10) (omega arith)) (last_back 2 n (omega arith) m (simp (ne_eqb (48 + n / 10 % 10) 48 (omega arith))))) λ g.
    rw (width_suc 17 (n / 10) (omega arith))
    (by_lt n 1000 _
    (λ h. rw (width_one 17 (n / 10 / 10) (omega arith)) (last_back 3 n (omega arith) m (simp (ne_eqb (48 + n / 10 / 10 % 10) 48 (omega arith))))) λ g.
    rw (width_suc 16 (n / 10 / 10) (omega arith))
    (by_lt n 10000 _
    (λ h. rw (width_one 16 (n / 10 / 10 / 10) (omega arith)) (last_back 4 n (omega arith) m (simp (ne_eqb (48 + n / 10 / 10 / 10 % 10) 48 (omega arith))))) λ g.
    rw (width_suc 15 (n / 10 / 10 / 10) (omega arith), width_one 15 (n / 10 / 10 / 10 / 10) (omega arith))
    (last_back 5 n (omega arith) m (simp (ne_eqb (48 + n / 10 / 10 / 10 / 10 % 10) 48 (omega arith)))))))

-- a digit's value is the number that it stands for
value_digit : (d : ℕ) → d < 16 → hex_value (hex_digit d) ≡ d
unfolding hex_value hex_digit
value_digit d h =
    by_lt d 10 _
    (λ g. simp (lt-ltb d 10 g, le-ltb (48 + d) 48 (omega arith), le-leb (48 + d) 57 (omega arith)) (omega arith))
    (λ g. simp (le-ltb d 10 g, le-ltb (65 + (d - 10)) 48 (omega arith), lt-leb (65 + (d - 10)) 57 (omega arith), le-ltb (65 + (d - 10)) 65 (omega arith), le-leb (65 + (d - 10)) 70 (omega arith)) (omega arith))

-- octets as digits are read as those octets
pub hex_back : (s : List ℕ) → ((i : ℕ) → i < length s → get_or s i 0 < 256) → hex_octets (hex_text s) ≡ s
unfolding hex_text hex_octets
hex_back [] h = refl
hex_back (b ∷ bs) h =
    let low : b < 256 = h 0 (omega arith) in
    let e : b / 16 * 16 + b % 16 ≡ b = omega arith in
    let tail : hex_octets (hex_text bs) ≡ bs = hex_back bs (λ i p. h (suc i) (omega arith)) in
    rw (value_digit (b / 16) (omega arith), value_digit (b % 16) (omega arith), e, tail)
