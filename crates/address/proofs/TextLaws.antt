-- The texts of numbers: only digits, so no separator is among them, and read as the number that they were written for.
-- Assumes nothing.
use Prim.Native.Nat.{ℕ, zero, suc, ◌+◌, ◌-◌, ◌*◌, ◌/◌, ◌%◌, ◌^◌, ◌<◌}
use mathlib.Core.Path.{◌≡◌, refl, sym, ap, ◌∙◌}
use mathlib.Core.List.{List, [], ◌∷◌, ◌++◌, map}
use mathlib.Core.Bool.{Bool, true, false, ◌&&◌, true≢false, and-true, and_assoc, and-eq-true_iff}
use lib.ListN.{length, length-append}
use native.Mathlib.Nat.{pow-suc}
use native.Mathlib.Numerals.{add-one}
use native.Mathlib.Omega.{arith}
use borrow.Author.Tests.{le-leb, lt-leb, lt-ltb, le-ltb, ne_eqb}
use Rattle.octets.specs.Split.{has}
use Rattle.octets.specs.Append.{number_text}
use Rattle.octets.specs.Decimal.{on_number}
use Rattle.octets.specs.Hex.{is_hex_digit, hex_value, all_hex}
use Rattle.octets.proofs.CaseLaws.{by_eq, by_lt}
use Rattle.octets.proofs.RoundTrip.{number_back}
use Rattle.address.specs.Parts.{in_base}
use Rattle.address.specs.Ipv4.{is_octet, octet_value}
use Rattle.address.specs.Ipv6.{is_group, group_value}
use Rattle.address.specs.Canonical.{low_digit, last_hex, hex_width, group_text}
use Rattle.address.proofs.WriteLaws.{width_some, width_few}

-- ---- decimal numbers
pub octet_back : (n : ℕ) → n < 256 → (is_octet (number_text n) ≡ true) × (octet_value (number_text n) ≡ n)
unfolding is_octet octet_value on_number
octet_back n h = let e = number_back n (omega arith) in (rw (e, le-leb n 255 (omega arith)), rw e)

-- ---- groups
hex_has : (c : ℕ) (s : List ℕ) → is_hex_digit c ≡ false → all_hex s ≡ true → has c s ≡ false
unfolding has all_hex
hex_has c [] n e = refl
hex_has c (b ∷ bs) n e =
    let (p, q) = (and-eq-true_iff (is_hex_digit b) (all_hex bs)).0 e in
    by_eq b c _
    (λ z. absurd (true≢false (sym p ∙ ap is_hex_digit z ∙ n)))
    (λ z. rw (ne_eqb b c z) (hex_has c bs n q))

-- a digit is one, and its value is the number that it stands for
digit_is : (d : ℕ) → d < 16 → is_hex_digit (low_digit d) ≡ true
unfolding is_hex_digit low_digit
digit_is d h =
    by_lt d 10 _
    (λ g. simp (lt-ltb d 10 g, le-ltb (48 + d) 48 (omega arith), le-leb (48 + d) 57 (omega arith)))
    (λ g. simp (le-ltb d 10 g, le-ltb (97 + (d - 10)) 48 (omega arith), lt-leb (97 + (d - 10)) 57 (omega arith), le-ltb (97 + (d - 10)) 65 (omega arith), lt-leb (97 + (d - 10)) 70 (omega arith), le-leb 97 (97 + (d - 10)) (omega arith), le-leb (97 + (d - 10)) 102 (omega arith)))

digit_back : (d : ℕ) → d < 16 → hex_value (low_digit d) ≡ d
unfolding hex_value low_digit
digit_back d h =
    by_lt d 10 _
    (λ g. simp (lt-ltb d 10 g, le-ltb (48 + d) 48 (omega arith), le-leb (48 + d) 57 (omega arith)) (omega arith))
    (λ g. simp (le-ltb d 10 g, le-ltb (97 + (d - 10)) 48 (omega arith), lt-leb (97 + (d - 10)) 57 (omega arith), le-ltb (97 + (d - 10)) 65 (omega arith), lt-leb (97 + (d - 10)) 70 (omega arith), le-ltb (97 + (d - 10)) 97 (omega arith), le-leb (97 + (d - 10)) 102 (omega arith)) (omega arith))

hex_snoc : (xs : List ℕ) (b : ℕ) → all_hex (xs ++ (b ∷ [])) ≡ (all_hex xs && is_hex_digit b)
unfolding all_hex
hex_snoc [] b = and-true (is_hex_digit b)
hex_snoc (x ∷ xs) b = ap (λ (t : Bool). is_hex_digit x && t) (hex_snoc xs b) ∙ sym (and_assoc (is_hex_digit x) (all_hex xs) (is_hex_digit b))

hex_last : (k n : ℕ) → all_hex (last_hex k n) ≡ true
unfolding last_hex all_hex
hex_last zero n = refl
hex_last (suc k) n = simp (hex_snoc, hex_last k (n / 16), digit_is (n % 16) (omega arith))

length_last : (k n : ℕ) → length (last_hex k n) ≡ k
unfolding last_hex
length_last zero n = refl
length_last (suc k) n = simp (length-append, length_last k (n / 16), add-one)

value_snoc : (m : ℕ) (xs : List ℕ) (b : ℕ) → in_base 16 m (map hex_value (xs ++ (b ∷ []))) ≡ in_base 16 m (map hex_value xs) * 16 + hex_value b
unfolding in_base
value_snoc m [] b = refl
value_snoc m (x ∷ xs) b = value_snoc (m * 16 + hex_value x) xs b

value_last : (k n : ℕ) → n < 16 ^ k → in_base 16 0 (map hex_value (last_hex k n)) ≡ n
unfolding last_hex in_base
value_last zero n h = omega arith
value_last (suc k) n h =
    let h' : n < 16 ^ k * 16 = rw pow-suc at h in
    let e = value_last k (n / 16) (omega arith) in
    value_snoc 0 (last_hex k (n / 16)) (low_digit (n % 16)) ∙ omega (arith, digit_back (n % 16) (omega arith))

width_holds : (g : ℕ) → g < 65536 → g < 16 ^ hex_width g
unfolding hex_width
width_holds g m =
    by_lt g 16 _ (λ h. rw (lt-ltb g 16 h) (omega arith)) λ p.
    by_lt g 256 _ (λ h. rw (le-ltb g 16 p, lt-ltb g 256 h) (omega arith)) λ q.
    by_lt g 4096 _ (λ h. rw (le-ltb g 16 p, le-ltb g 256 q, lt-ltb g 4096 h) (omega arith)) λ r.
    rw (le-ltb g 16 p, le-ltb g 256 q, le-ltb g 4096 r) (omega arith)

pub length_group : (g : ℕ) → length (group_text g) ≡ hex_width g
unfolding group_text
length_group g = length_last (hex_width g) g

pub group_has : (c g : ℕ) → is_hex_digit c ≡ false → has c (group_text g) ≡ false
unfolding group_text
group_has c g e = hex_has c (group_text g) e (hex_last (hex_width g) g)

pub group_back : (g : ℕ) → g < 65536 → (is_group (group_text g) ≡ true) × (group_value (group_text g) ≡ g)
unfolding is_group group_value group_text
group_back g h = (
  simp (length_last (hex_width g) g, le-leb 1 (hex_width g) (width_some g), le-leb (hex_width g) 4 (width_few g), hex_last (hex_width g) g),
  value_last (hex_width g) g (width_holds g h),
)
