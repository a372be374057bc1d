-- The text that is written for an address stands for it alone. What a text is read as is one host's address in range, and so is read from its own text again; two addresses with one text are then one address.
-- Assumes nothing.
use Prim.Native.Nat.{ℕ, ◌+◌, ◌*◌, ◌/◌, ◌%◌, ◌^◌, ◌<◌}
use mathlib.Core.Path.{◌≡◌, refl, sym, ap, ◌∙◌}
use mathlib.Core.List.{List, [], ◌∷◌, ◌++◌, map}
use mathlib.Core.Bool.{true, false, ◌&&◌, true≢false, or-true, and-eq-true_iff}
use lib.ListN.{length, length-map}
use lib.Dec.{leb, eqb}
use native.Mathlib.Nat.{mod-lt, div-lt_iff_lt-mul}
use native.Mathlib.Omega.{arith}
use borrow.Author.Tests.{leb-true, eqb-true, eq-eqb}
use Rattle.std.specs.declared.option.Option.{Option}
use Rattle.std.specs.declared.option.Option.TheVariants.{Some, None}
use Rattle.octets.specs.Append.{number_text}
use Rattle.octets.specs.Decimal.{read_number, on_number}
use Rattle.octets.specs.Hex.{is_hex_digit}
use Rattle.octets.specs.Split.{has, split_on}
use Rattle.octets.proofs.CaseLaws.{by_bool}
use Rattle.address.specs.declared.Address.{Address}
use Rattle.address.specs.declared.Address.TheVariants.{V4, V6}
use Rattle.address.specs.Kinds.{is_unicast, if_unicast}
use Rattle.address.specs.Parts.{all_parts, in_base}
use Rattle.address.specs.Ipv4.{is_octet, octet_value, is_dotted, dotted_value, read_v4}
use Rattle.address.specs.Ipv6.{is_group, group_value, parts_of, if_unicast_groups, full, before_gap, after_gap, has_gap, filled, gapped, read_v6}
use Rattle.address.specs.Canonical.{each_after, joined, dotted_numbers, ipv4_text, address_text}
use Rattle.address.proofs.KindLaws.{cond_told, unicast_told}
use Rattle.address.proofs.PartLaws.{Below, base_below, below_values}
use Rattle.address.proofs.Ipv6Laws.{groups_below, filled_below, length_filled}
use Rattle.address.proofs.RoundTrip.{ipv4_back, ipv6_back}
use Rattle.address.proofs.Visible.{ipv6_has}

-- ---- IPv4
-- one host's address of 32 bits
data Host4 : Address → Type 0 where
  host4 : (n : ℕ) → n < 2 ^ 32 → is_unicast (V4 n) ≡ true → Host4 (V4 n)

octet_low : (z : Option ℕ) → on_number z (λ n. leb n 255) false ≡ true → on_number z (λ n. n) 0 < 256
unfolding on_number
octet_low (Some n) e = omega (arith, leb-true n 255 e)
octet_low None e = omega arith

octet_small : (p : List ℕ) → is_octet p ≡ true → octet_value p < 256
unfolding is_octet octet_value
octet_small p e = octet_low (read_number p) e

dotted_small : (ps : List (List ℕ)) → is_dotted ps ≡ true → dotted_value ps < 2 ^ 32
unfolding is_dotted dotted_value
dotted_small ps e =
    let (p, q) = (and-eq-true_iff (all_parts is_octet ps) (eqb (length ps) 4)).0 e in
    let k : in_base 256 0 (map octet_value ps) < 256 ^ (0 + length (map octet_value ps)) =
    base_below 256 (map octet_value ps) 0 0 (below_values 256 is_octet octet_value octet_small ps p) (omega arith) in
    rw (length-map ps octet_value, eqb-true (length ps) 4 q) at k

read_host_4 : (s : List ℕ) (a : Address) → read_v4 s ≡ Some a → Host4 a
unfolding read_v4
read_host_4 s a e =
    let ps = split_on 46 s in
    let (p, q) = cond_told (is_dotted ps) (if_unicast (V4 (dotted_value ps))) a e in
    let (u, w) = unicast_told (V4 (dotted_value ps)) a q in
    rw w (host4 (dotted_value ps) (dotted_small ps p) u)

again_4 : (a : Address) → Host4 a → read_v4 (address_text a) ≡ Some a
again_4 a (host4 n h u) = ipv4_back n h u

-- an address that was read is read again from the text that is written for it
pub read_again_4 : (s : List ℕ) (a : Address) → read_v4 s ≡ Some a → read_v4 (address_text a) ≡ Some a
read_again_4 s a e = again_4 a (read_host_4 s a e)

-- ---- IPv6
-- one host's address of 128 bits
data Host6 : Address → Type 0 where
  host6 : (high low : ℕ) → high < 2 ^ 64 → low < 2 ^ 64 → is_unicast (V6 high low) ≡ true → Host6 (V6 high low)

groups_host : (gs : List ℕ) (a : Address) → Below 65536 gs → length gs ≡ 8 → if_unicast_groups gs ≡ Some a → Host6 a
unfolding if_unicast_groups
groups_host gs a s h e =
    let n = in_base 65536 0 gs in
    let b : n < 2 ^ 64 * 2 ^ 64 = rw h at (base_below 65536 gs 0 0 s (omega arith)) in
    let (u, w) = unicast_told (V6 (n / 2 ^ 64) (n % 2 ^ 64)) a e in
    rw w (host6 (n / 2 ^ 64) (n % 2 ^ 64) ((div-lt_iff_lt-mul {k = 2 ^ 64} (omega arith)).1 b) (mod-lt n {m = 2 ^ 64} (omega arith)) u)

full_host : (ps : List (List ℕ)) (a : Address) → full ps ≡ Some a → Host6 a
unfolding full
full_host ps a e =
    let (t, x) = cond_told (all_parts is_group ps && eqb (length ps) 8) (if_unicast_groups (map group_value ps)) a e in
    let (p, q) = (and-eq-true_iff (all_parts is_group ps) (eqb (length ps) 8)).0 t in
    groups_host (map group_value ps) a (groups_below ps p) (length-map ps group_value ∙ eqb-true (length ps) 8 q) x

gapped_host : (ls rs : List (List ℕ)) (a : Address) → gapped ls rs ≡ Some a → Host6 a
unfolding gapped
gapped_host ls rs a e =
    let (t, x) = cond_told (all_parts is_group ls && (all_parts is_group rs && leb (length ls + length rs) 7)) (if_unicast_groups (filled ls rs)) a e in
    let (p, q) = (and-eq-true_iff (all_parts is_group ls) (all_parts is_group rs && leb (length ls + length rs) 7)).0 t in
    let (r, m) = (and-eq-true_iff (all_parts is_group rs) (leb (length ls + length rs) 7)).0 q in
    groups_host (filled ls rs) a (filled_below ls rs p r) (length_filled ls rs (leb-true (length ls + length rs) 7 m)) x

read_host_6 : (s : List ℕ) (a : Address) → read_v6 s ≡ Some a → Host6 a
unfolding read_v6
read_host_6 s a e =
    by_bool (has_gap s) _
    (λ t. gapped_host (parts_of (before_gap s)) (parts_of (after_gap s)) a (rw t at e))
    (λ t. full_host (parts_of s) a (rw t at e))

again_6 : (a : Address) → Host6 a → read_v6 (address_text a) ≡ Some a
again_6 a (host6 high low h l u) = ipv6_back high low h l u

pub read_again_6 : (s : List ℕ) (a : Address) → read_v6 s ≡ Some a → read_v6 (address_text a) ≡ Some a
read_again_6 s a e = again_6 a (read_host_6 s a e)

-- ---- one text for one address
has_here : (c : ℕ) (xs ys : List ℕ) → has c (xs ++ (c ∷ ys)) ≡ true
unfolding has
has_here c [] ys = rw (eq-eqb c c refl)
has_here c (x ∷ xs) ys = rw (has_here c xs ys) (or-true (eqb x c))

-- the texts of the two families differ: one has a dot
dot_4 : (a : Address) → Host4 a → has 46 (address_text a) ≡ true
unfolding address_text ipv4_text dotted_numbers joined each_after
dot_4 a (host4 n h u) = has_here 46 (number_text (n / 2 ^ 24 % 256)) _

dot_6 : (a : Address) → Host6 a → has 46 (address_text a) ≡ false
unfolding address_text is_hex_digit
dot_6 a (host6 high low h l u) = ipv6_has 46 high low refl (λ e. omega arith)

apart : (a b : Address) → Host4 a → Host6 b → address_text a ≡ address_text b → ⊥
apart a b p q e =
    true≢false (sym (dot_4 a p) ∙ ap (has 46) e ∙ dot_6 b q)

-- one of the readers reads s as a
pub data Read (s : List ℕ) (a : Address) : Type 0 where
  by_4 : read_v4 s ≡ Some a → Read s a
  by_6 : read_v6 s ≡ Some a → Read s a

same_unicast : (a b : Address) → Some a ≡ Some b → a ≡ b
same_unicast a b e = cc

one_value : (s t : List ℕ) (a b : Address) → Read s a → Read t b → address_text a ≡ address_text b → a ≡ b
one_value s t a b (by_4 p) (by_4 q) e = same_unicast a b (sym (read_again_4 s a p) ∙ ap read_v4 e ∙ read_again_4 t b q)
one_value s t a b (by_6 p) (by_6 q) e = same_unicast a b (sym (read_again_6 s a p) ∙ ap read_v6 e ∙ read_again_6 t b q)
one_value s t a b (by_4 p) (by_6 q) e = absurd (apart a b (read_host_4 s a p) (read_host_6 t b q) e)
one_value s t a b (by_6 p) (by_4 q) e = absurd (apart b a (read_host_4 t b q) (read_host_6 s a p) (sym e))

-- two texts are read as one address exactly where one text is written for both
pub same_text : (s t : List ℕ) (a b : Address) → Read s a → Read t b → (a ≡ b → address_text a ≡ address_text b) × (address_text a ≡ address_text b → a ≡ b)
same_text s t a b p q = (ap address_text, one_value s t a b p q)
