-- Laws of `read_group`: the digits that are left, after the number of those before them, give the same group at each step; four digits stay below 65536.
-- Assumes nothing.
use Prim.Native.Nat.{ℕ, ◌+◌, ◌*◌, ◌^◌, ◌≤◌, ◌<◌}
use mir.Val.{Fits}
use mir.Syntax.{w16}
use mathlib.Core.Path.{◌≡◌}
use mathlib.Core.List.{List, [], ◌∷◌, map}
use mathlib.Core.Bool.{true, ◌&&◌, cond, and-eq-true_iff}
use lib.ListN.{length, get_or, drop, length-map, drop_of_length-le}
use lib.Dec.{leb}
use native.Mathlib.Nat.{pow-le-pow_right, zero-add}
use native.Mathlib.Numerals.{add-one}
use native.Mathlib.Omega.{arith}
use borrow.Author.Tests.{le-leb, leb-true}
use Rattle.std.specs.declared.option.Option.{Option}
use Rattle.std.specs.declared.option.Option.TheVariants.{Some, None}
use Rattle.octets.specs.Hex.{hex_value, all_hex, digit_in}
use Rattle.octets.proofs.Laws.{next}
use Rattle.octets.proofs.HexLaws.{value_low, none_digit, some_digit}
use Rattle.address.specs.Parts.{in_base}
use Rattle.address.specs.Ipv6.{is_group, group_value}
use Rattle.address.specs.Private.{read_group}
use Rattle.address.proofs.PartLaws.{Below, none, one, next_below, base_below}

-- the number after n of the digits of s, where s has only digits
unfoldable pub digits_from : ℕ → List ℕ → Option ℕ
digits_from n s = cond (all_hex s) (Some (in_base 16 n (map hex_value s))) None

pub group_starts : (s : List ℕ) → 1 ≤ length s → length s ≤ 4 → digits_from 0 s ≡ read_group s
unfolding read_group is_group group_value digits_from
group_starts s p q = simp (le-leb 1 (length s) p, le-leb (length s) 4 q)

-- At i: what was read so far is n, and `digits_from n` of the rest is the answer x.
module _ (s : List ℕ) (i n : ℕ) (x : Option ℕ) (inv : digits_from n (drop i s) ≡ x) where
  pub group_digit : (d : ℕ) → i < length s → Some d ≡ digit_in (get_or s i 0) → digits_from (n * 16 + d) (drop (i + 1) s) ≡ x
  unfolding digits_from all_hex in_base
  group_digit d h e = let (p, v, m) = some_digit (get_or s i 0) d e in rw v (rw (next s i h, p) at inv)

  pub group_other : i < length s → None ≡ digit_in (get_or s i 0) → None ≡ x
  unfolding digits_from all_hex
  group_other h e = rw (next s i h, none_digit (get_or s i 0) e) at inv

  pub group_end : length s ≤ i → Some n ≡ x
  unfolding digits_from all_hex in_base
  group_end h = rw (drop_of_length-le s h) at inv

-- i digits stand for less than 16 ^ i
pub group_next : (n i d b : ℕ) → n < 16 ^ i → Some d ≡ digit_in b → n * 16 + d < 16 ^ (i + 1)
group_next n i d b h e = let (t, v, m) = some_digit b d e in rw add-one (next_below 16 n i d h m)

pub ruleset group_read = (group_starts, group_digit, group_other, group_end, group_next)

pub add_fits : (s : List ℕ) (n i d b : ℕ) → n < 16 ^ i → i < length s → length s ≤ 4 → Some d ≡ digit_in b → Fits w16 (n * 16 + d)
add_fits s n i d b h p q e =
    let (t, v, m) = some_digit b d e in
    let z : 16 ^ i ≤ 16 ^ 3 = pow-le-pow_right {n = 16} (omega arith) {i = i} {j = 3} (omega arith) in
    omega arith

-- ---- for callers
hex_below : (s : List ℕ) → Below 16 (map hex_value s)
hex_below [] = none
hex_below (b ∷ bs) = one (value_low b) (hex_below bs)

pub group_small : (p : List ℕ) → is_group p ≡ true → group_value p < 65536
unfolding is_group group_value
group_small p e =
    let (a, b) = (and-eq-true_iff (leb 1 (length p)) (leb (length p) 4 && all_hex p)).0 e in
    let (q, r) = (and-eq-true_iff (leb (length p) 4) (all_hex p)).0 b in
    let k : in_base 16 0 (map hex_value p) < 16 ^ length p = rw (zero-add, length-map p hex_value) at (base_below 16 (map hex_value p) 0 0 (hex_below p) (omega arith)) in
    let m : 16 ^ length p ≤ 16 ^ 4 = pow-le-pow_right {n = 16} (omega arith) {i = length p} {j = 4} (leb-true (length p) 4 q) in
    omega arith
