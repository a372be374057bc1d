-- What `push_address` writes, the reader of its family reads back. Cutting the text gives the numbers' or groups' texts, each is read as its number, and together they are the digits of the address.
-- Assumes nothing.
use Prim.Native.Nat.{ℕ, ◌+◌, ◌-◌, ◌*◌, ◌/◌, ◌%◌, ◌^◌, ◌≤◌, ◌<◌}
use mathlib.Core.Path.{◌≡◌, refl, sym, ap, ◌∙◌}
use mathlib.Core.List.{List, [], ◌∷◌, ◌++◌, append-nil, map}
use mathlib.Core.Bool.{true, false}
use lib.ListN.{length, take, drop, replicate, length-append, length-drop, length-map}
use lib.Seq.{length-take-le}
use native.Mathlib.Nat.{suc-add, div-div-eq-div-mul, div-add-mod', le_refl}
use native.Mathlib.Omega.{arith}
use borrow.Author.Tests.{lt-ltb, le-ltb, le-leb, eq-eqb}
use Rattle.std.specs.declared.option.Option.TheVariants.{Some}
use Rattle.octets.specs.Append.{number_text}
use Rattle.octets.specs.Decimal.{is_digit}
use Rattle.octets.specs.Split.{has, split_on}
use Rattle.octets.proofs.CaseLaws.{by_lt}
use Rattle.octets.proofs.RoundTrip.{number_has}
use Rattle.address.specs.declared.Address.{Address}
use Rattle.address.specs.declared.Address.TheVariants.{V4, V6}
use Rattle.address.specs.declared.ipv6.Halves.{Halves}
use Rattle.address.specs.declared.write.Run.{Run}
use Rattle.address.specs.Kinds.{is_unicast, if_unicast}
use Rattle.address.specs.Parts.{all_parts, in_base}
use Rattle.address.specs.Ipv4.{is_octet, octet_value, is_dotted, dotted_value, read_v4}
use Rattle.address.specs.Ipv6.{is_group, group_value, if_unicast_groups, full, before_gap, after_gap, filled, gapped, read_v6}
use Rattle.address.specs.Canonical.{joined, dotted_numbers, ipv4_text, group_text, four_groups, groups_of, longest_run, shortened, ipv6_text, address_text}
use Rattle.address.specs.Back.{fits, read_like}
use Rattle.address.proofs.KindLaws.{unicast_is}
use Rattle.address.proofs.PartLaws.{Below, none, one, below_take, below_drop, all_texts, values_texts}
use Rattle.address.proofs.GapLaws.{has_gap_lem, no_gap, gap_here}
use Rattle.address.proofs.HalvesLaws.{halves_of, halves_of_lem}
use Rattle.address.proofs.RunLaws.{IsRun, longest_is, around}
use Rattle.address.proofs.TextLaws.{octet_back, group_back}
use Rattle.address.proofs.JoinLaws.{split_joined, parts_joined, gap_joined}

-- ---- the digits of a number
-- one digit less
digit : (n a b : ℕ) → n / (a * b) * b + n / a % b ≡ n / a
digit n a b = ap (λ (z : ℕ). z * b + n / a % b) (sym (div-div-eq-div-mul n a b)) ∙ div-add-mod' (n / a) b

below_mod : (b n : ℕ) (ns : List ℕ) → n % b < b → Below b ns → Below b (n % b ∷ ns)
below_mod b n ns h s = one h s

-- ---- IPv4
dotted_numbers_below : (n : ℕ) → Below 256 (dotted_numbers n)
unfolding dotted_numbers
dotted_numbers_below n =
    below_mod 256 _ _ (omega arith) (below_mod 256 _ _ (omega arith) (below_mod 256 _ _ (omega arith) (below_mod 256 _ _ (omega arith) none)))

four_digits : (n a a' b b' c c' d' : ℕ) → a' ≡ a → a * 256 + b' ≡ b → b * 256 + c' ≡ c → c * 256 + d' ≡ n → (((0 * 256 + a') * 256 + b') * 256 + c') * 256 + d' ≡ n
four_digits n a a' b b' c c' d' p q r s = omega arith

dotted_numbers_value : (n : ℕ) → n < 2 ^ 32 → in_base 256 0 (dotted_numbers n) ≡ n
unfolding in_base dotted_numbers
dotted_numbers_value n h =
    four_digits n (n / 2 ^ 24) (n / 2 ^ 24 % 256) (n / 65536) (n / 65536 % 256) (n / 256) (n / 256 % 256) (n % 256)
    (omega arith) (digit n 65536 256) (digit n 256 256) (div-add-mod' n 256)

no_dot : (n : ℕ) → has 46 (number_text n) ≡ false
unfolding is_digit
no_dot n = number_has 46 n refl

split_numbers : (n : ℕ) → split_on 46 (ipv4_text n) ≡ map number_text (dotted_numbers n)
unfolding ipv4_text dotted_numbers
split_numbers n = split_joined 46 number_text no_dot _ _

length_dotted_numbers : (n : ℕ) → length (dotted_numbers n) ≡ 4
unfolding dotted_numbers
length_dotted_numbers n = refl

ipv4_read : (n : ℕ) → n < 2 ^ 32 → read_v4 (ipv4_text n) ≡ if_unicast (V4 n)
unfolding read_v4 is_dotted dotted_value
ipv4_read n h =
    rw (
      split_numbers n,
      all_texts 256 number_text is_octet octet_value octet_back (dotted_numbers n) (dotted_numbers_below n),
      values_texts 256 number_text is_octet octet_value octet_back (dotted_numbers n) (dotted_numbers_below n),
      length-map (dotted_numbers n) number_text,
      length_dotted_numbers n,
      dotted_numbers_value n h,
    )

-- ---- IPv6: the groups
groups_of_below : (high low : ℕ) → Below 65536 (groups_of high low)
unfolding groups_of four_groups
groups_of_below high low =
    below_mod 65536 _ _ (omega arith) (below_mod 65536 _ _ (omega arith) (below_mod 65536 _ _ (omega arith) (below_mod 65536 _ _ (omega arith)
    (below_mod 65536 _ _ (omega arith) (below_mod 65536 _ _ (omega arith) (below_mod 65536 _ _ (omega arith) (below_mod 65536 _ _ (omega arith) none)))))))

four_more : (m n a a' b b' c c' d' : ℕ) → a' ≡ a → a * 65536 + b' ≡ b → b * 65536 + c' ≡ c → c * 65536 + d' ≡ n
    → (((m * 65536 + a') * 65536 + b') * 65536 + c') * 65536 + d' ≡ m * 2 ^ 64 + n
four_more m n a a' b b' c c' d' p q r s = omega arith

-- the four groups of a half, after those of m
half_value : (m n : ℕ) → n < 2 ^ 64
    → (((m * 65536 + n / 2 ^ 48 % 65536) * 65536 + n / 2 ^ 32 % 65536) * 65536 + n / 65536 % 65536) * 65536 + n % 65536 ≡ m * 2 ^ 64 + n
half_value m n h =
    four_more m n (n / 2 ^ 48) (n / 2 ^ 48 % 65536) (n / 2 ^ 32) (n / 2 ^ 32 % 65536) (n / 65536) (n / 65536 % 65536) (n % 65536)
    (omega arith) (digit n (2 ^ 32) 65536) (digit n 65536 65536) (div-add-mod' n 65536)

groups_of_value : (high low : ℕ) → high < 2 ^ 64 → low < 2 ^ 64 → in_base 65536 0 (groups_of high low) ≡ high * 2 ^ 64 + low
unfolding in_base groups_of four_groups
groups_of_value high low p q =
    ap (λ (n : ℕ). (((n * 65536 + low / 2 ^ 48 % 65536) * 65536 + low / 2 ^ 32 % 65536) * 65536 + low / 65536 % 65536) * 65536 + low % 65536) (half_value 0 high p ∙ omega arith)
    ∙ half_value high low q

groups_written : (high low : ℕ) → high < 2 ^ 64 → low < 2 ^ 64 → if_unicast_groups (groups_of high low) ≡ if_unicast (V6 high low)
unfolding if_unicast_groups halves_of
groups_written high low p q =
    let e : halves_of (in_base 65536 0 (groups_of high low)) ≡ (let y : Halves = record { high = high; low = low } in y) = ap halves_of (groups_of_value high low p q) ∙ halves_of_lem high low q in
    ap (λ (x : Halves). if_unicast (V6 x.high x.low)) e

-- ---- IPv6: the texts
groups_all : (gs : List ℕ) → Below 65536 gs → all_parts is_group (map group_text gs) ≡ true
groups_all gs s = all_texts 65536 group_text is_group group_value group_back gs s

groups_values : (gs : List ℕ) → Below 65536 gs → map group_value (map group_text gs) ≡ gs
groups_values gs s = values_texts 65536 group_text is_group group_value group_back gs s

full_back : (gs : List ℕ) → Below 65536 gs → length gs ≡ 8 → read_v6 (joined 58 group_text gs) ≡ if_unicast_groups gs
unfolding read_v6 full before_gap
full_back gs s h =
    let e : before_gap (joined 58 group_text gs) ≡ joined 58 group_text gs =
    ap before_gap (sym (append-nil (joined 58 group_text gs))) ∙ gap_joined gs [] ∙ append-nil (joined 58 group_text gs) in
    let n : length (joined 58 group_text gs) ≤ length (before_gap (joined 58 group_text gs)) = rw e (le_refl (length (joined 58 group_text gs))) in
    rw (no_gap (joined 58 group_text gs) n, parts_joined gs, groups_all gs s, eq-eqb (length (map group_text gs)) 8 (length-map gs group_text ∙ h), groups_values gs s)

drop_past : (xs ys : List ℕ) → drop (length xs + 2) (xs ++ (58 ∷ 58 ∷ ys)) ≡ ys
drop_past [] ys = refl
drop_past (x ∷ xs) ys = rw suc-add (drop_past xs ys)

gapped_back : (ls rs : List ℕ) → Below 65536 ls → Below 65536 rs → length ls + length rs ≤ 7
    → read_v6 (joined 58 group_text ls ++ (58 ∷ 58 ∷ joined 58 group_text rs)) ≡ if_unicast_groups (ls ++ (replicate (8 - (length ls + length rs)) 0 ++ rs))
unfolding read_v6 gapped filled after_gap
gapped_back ls rs sl sr h =
    let xs = joined 58 group_text ls in
    let ys = joined 58 group_text rs in
    let s = xs ++ (58 ∷ 58 ∷ ys) in
    let e : before_gap s ≡ xs = gap_joined ls (58 ∷ 58 ∷ ys) ∙ ap (λ (l : List ℕ). xs ++ l) (gap_here 58 58 ys refl) ∙ append-nil xs in
    let el : length (before_gap s) ≡ length xs = ap length e in
    let n : length (before_gap s) < length s = omega (arith, length-append xs (58 ∷ 58 ∷ ys)) in
    rw (
      has_gap_lem s n,
      e,
      drop_past xs ys,
      parts_joined ls,
      parts_joined rs,
      groups_all ls sl,
      groups_all rs sr,
      length-map ls group_text,
      length-map rs group_text,
      le-leb (length ls + length rs) 7 h,
      groups_values ls sl,
      groups_values rs sr,
    )

shortened_back : (gs : List ℕ) (r : Run) → Below 65536 gs → length gs ≡ 8 → IsRun gs r → read_v6 (shortened gs r) ≡ if_unicast_groups gs
unfolding shortened
shortened_back gs r s h w =
    let i = w.inside in
    by_lt r.len 2 _
    (λ p. rw (lt-ltb r.len 2 p) (full_back gs s h))
    (λ p. let ll : length (take r.start gs) ≡ r.start = length-take-le r.start gs (omega arith) in
    let lr : length (drop (r.start + r.len) gs) ≡ length gs - (r.start + r.len) = length-drop (r.start + r.len) gs in
    let n : 8 - (length (take r.start gs) + length (drop (r.start + r.len) gs)) ≡ r.len = omega arith in
    rw (le-ltb r.len 2 p)
    (gapped_back (take r.start gs) (drop (r.start + r.len) gs) (below_take 65536 r.start gs s) (below_drop 65536 (r.start + r.len) gs s) (omega arith)
    ∙ ap if_unicast_groups (rw n (around gs r w))))

length_groups_of : (high low : ℕ) → length (groups_of high low) ≡ 8
unfolding groups_of four_groups
length_groups_of high low = refl

ipv6_read : (high low : ℕ) → high < 2 ^ 64 → low < 2 ^ 64 → read_v6 (ipv6_text high low) ≡ if_unicast (V6 high low)
unfolding ipv6_text
ipv6_read high low p q =
    shortened_back (groups_of high low) (longest_run (groups_of high low)) (groups_of_below high low) (length_groups_of high low) (longest_is (groups_of high low))
    ∙ groups_written high low p q

-- ---- the theorems
pub ipv4_back : (n : ℕ) → n < 2 ^ 32 → is_unicast (V4 n) ≡ true → read_v4 (address_text (V4 n)) ≡ Some (V4 n)
unfolding address_text
ipv4_back n h e = ipv4_read n h ∙ unicast_is (V4 n) e

pub ipv6_back : (high low : ℕ) → high < 2 ^ 64 → low < 2 ^ 64 → is_unicast (V6 high low) ≡ true → read_v6 (address_text (V6 high low)) ≡ Some (V6 high low)
unfolding address_text
ipv6_back high low p q e = ipv6_read high low p q ∙ unicast_is (V6 high low) e

-- every address of one host is read from the text that is written for it
pub address_back : (a : Address) → fits a → is_unicast a ≡ true → read_like a (address_text a) ≡ Some a
unfolding fits read_like
address_back (V4 n) h e = ipv4_back n h e
address_back (V6 high low) h e = ipv6_back high low h.0 h.1 e
