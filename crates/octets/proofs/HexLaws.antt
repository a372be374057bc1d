-- Laws of hexadecimal text: an octet is read from two digits and written as two digits, so each turn takes or gives two.
-- Assumes nothing.
use Prim.Native.Nat.{ℕ, ◌+◌, ◌-◌, ◌/◌, ◌%◌, ◌≤◌, ◌<◌}
use mathlib.Core.Path.{◌≡◌, refl, ap}
use mathlib.Core.List.{List, [], ◌∷◌, ◌++◌}
use mathlib.Core.Bool.{Bool, true, false, cond}
use Rattle.std.specs.declared.option.Option.{Option}
use Rattle.std.specs.declared.option.Option.TheVariants.{Some, None}
use lib.ListN.{length, get_or, take}
use lib.Seq.{take_all, take-suc}
use lib.Dec.{ltb, leb}
use native.Mathlib.Numerals.{add-one}
use native.Mathlib.Omega.{arith}
use borrow.Author.Tests.{leb-true, lt-ltb, le-ltb, le-leb, lt-leb}
use Rattle.octets.specs.Append.{Appends}
use Rattle.octets.specs.Hex.{is_hex_digit, hex_value, hex_octets, digit_in, hex_digit, hex_text}
use Rattle.octets.proofs.CaseLaws.{by_bool, by_lt}
use Rattle.octets.proofs.AppendLaws.{append_nil, append_then}

cond_low : (t : Bool) (x y : ℕ) → (t ≡ true → x < 16) → (t ≡ false → y < 16) → cond t x y < 16
cond_low t x y f g = by_bool t _ (λ p. rw p (f p)) (λ p. rw p (g p))

pub value_low : (b : ℕ) → hex_value b < 16
unfolding hex_value
value_low b =
    cond_low (ltb b 48) _ _ (λ p. omega arith)
    (λ p. cond_low (leb b 57) _ _ (λ q. omega (arith, leb-true b 57 q))
    (λ q. cond_low (ltb b 65) _ _ (λ r. omega arith)
    (λ r. cond_low (leb b 70) _ _ (λ s. omega (arith, leb-true b 70 s))
    (λ s. cond_low (ltb b 97) _ _ (λ t. omega arith)
    (λ t. cond_low (leb b 102) _ _ (λ u. omega (arith, leb-true b 102 u)) (λ u. omega arith))))))

-- ---- a digit's value, by the range it is in
module _ (b : ℕ) where
  pub digit_decimal : 48 ≤ b → b ≤ 57 → Some (b - 48) ≡ digit_in b
  unfolding digit_in is_hex_digit hex_value
  digit_decimal h k = rw (le-ltb b 48 h, le-leb b 57 k)

  pub digit_upper : 65 ≤ b → b ≤ 70 → Some (b - 65 + 10) ≡ digit_in b
  unfolding digit_in is_hex_digit hex_value
  digit_upper h k = rw (le-ltb b 48 (omega arith), lt-leb b 57 (omega arith), le-ltb b 65 h, le-leb b 70 k)

  pub digit_lower : 97 ≤ b → b ≤ 102 → Some (b - 97 + 10) ≡ digit_in b
  unfolding digit_in is_hex_digit hex_value
  digit_lower h k =
      rw (le-ltb b 48 (omega arith), lt-leb b 57 (omega arith), le-ltb b 65 (omega arith), lt-leb b 70 (omega arith), le-ltb b 97 h, le-leb 97 b h, le-leb b 102 k)

  pub digit_none : (48 ≤ b → 57 < b) → (65 ≤ b → 70 < b) → (97 ≤ b → 102 < b) → None ≡ digit_in b
  unfolding digit_in is_hex_digit
  digit_none f g h =
      by_lt b 48 _ (λ p. rw (lt-ltb b 48 p)) λ p.
      by_lt b 65 _ (λ q. rw (le-ltb b 48 p, lt-leb b 57 (f p), lt-ltb b 65 q)) λ q.
      rw (le-ltb b 48 p, lt-leb b 57 (f p), le-ltb b 65 q, lt-leb b 70 (g q))
      (by_lt b 97 _ (λ r. rw (lt-leb 97 b r)) λ r. rw (le-leb 97 b r, lt-leb b 102 (h r)))

pub ruleset digits = (digit_decimal, digit_upper, digit_lower, digit_none)

-- what `digit` says of b
pub none_digit : (b : ℕ) → None ≡ digit_in b → is_hex_digit b ≡ false
unfolding digit_in
none_digit b e =
    by_bool (is_hex_digit b) _
    (λ p. let z : ◌≡◌ {A = Option ℕ} None (Some (hex_value b)) = rw p at e in absurd (let y : ◌≡◌ {A = ℕ} 0 1 = cc in omega arith))
    (λ p. p)

pub some_digit : (b a : ℕ) → Some a ≡ digit_in b → (is_hex_digit b ≡ true) × (a ≡ hex_value b) × (a < 16)
unfolding digit_in
some_digit b a e =
    by_bool (is_hex_digit b) _
    (λ p.
    let z : ◌≡◌ {A = Option ℕ} (Some a) (Some (hex_value b)) = rw p at e in
    let y : a ≡ hex_value b = cc in
    (p, y, omega (arith, value_low b)))
    (λ p. let z : ◌≡◌ {A = Option ℕ} (Some a) None = rw p at e in absurd (let y : ◌≡◌ {A = ℕ} 0 1 = cc in omega arith))

pub length_octets : (s : List ℕ) (w : ℕ) → w ≡ length s / 2 → length (hex_octets s) ≡ w
unfolding hex_octets
length_octets [] w e = omega arith
length_octets (a ∷ []) w e = omega arith
length_octets (a ∷ b ∷ s) w e = let z = length_octets s (length s / 2) refl in omega arith

hex_append : (xs ys : List ℕ) → hex_text (xs ++ ys) ≡ hex_text xs ++ hex_text ys
unfolding hex_text
hex_append [] ys = refl
hex_append (x ∷ xs) ys = ap (λ (z : List ℕ). hex_digit (x / 16) ∷ hex_digit (x % 16) ∷ z) (hex_append xs ys)

-- the digits of one octet
pub hex_pair : (l f g : List ℕ) (at r r' b x y : ℕ) → x ≡ hex_digit (b / 16) → y ≡ hex_digit (b % 16)
    → Appends f r (y ∷ []) r' g → Appends l at (x ∷ []) r f → Appends l at (hex_text (b ∷ [])) r' g
unfolding hex_text
hex_pair l f g at r r' b x y p q v u = rw (← p, ← q) (append_then l f g (x ∷ []) (y ∷ []) at r r' v u)

-- the digits of one octet more
hex_take : (s : List ℕ) (j : ℕ) → j < length s → hex_text (take j s) ++ hex_text (get_or s j 0 ∷ []) ≡ hex_text (take (j + 1) s)
hex_take s j h = rw (add-one, take-suc s j 0 h, hex_append)

pub hex_start : (src l : List ℕ) (at : ℕ) → Appends l at (hex_text (take 0 src)) at l
unfolding hex_text
hex_start src l at = append_nil l at

-- The digits of j octets of src are appended, and the buffer has l. The call was `push_hex(src, l₀, at)`.
module _ (src l₀ l : List ℕ) (at j k : ℕ) (inv : Appends l₀ at (hex_text (take j src)) k l) where
  pub hex_turn : (f : List ℕ) (r : ℕ) → j < length src → Appends l k (hex_text (get_or src j 0 ∷ [])) r f → Appends l₀ at (hex_text (take (j + 1) src)) r f
  hex_turn f r h u =
      let z = append_then l₀ l f (hex_text (take j src)) (hex_text (get_or src j 0 ∷ [])) at k r u inv in
      rw (hex_take src j h) at z

  pub hex_done : length src ≤ j → Appends l₀ at (hex_text src) k l
  hex_done h = rw (take_all j src h) at inv

pub ruleset hexing = (hex_start, hex_turn, hex_done)
