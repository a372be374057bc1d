-- How long the text of an address is: a number to 255 has at most three digits and a group at most four, and "::" is no longer than the groups that it stands for.
-- Assumes nothing.
use Prim.Native.Nat.{ℕ, ◌+◌, ◌-◌, ◌*◌, ◌/◌, ◌%◌, ◌^◌, ◌≤◌, ◌<◌}
use mathlib.Core.Path.{◌≡◌, refl}
use mathlib.Core.List.{List, [], ◌∷◌}
use lib.ListN.{length, take, drop, length-append, length-drop}
use lib.Seq.{length-take-le}
use native.Mathlib.Omega.{arith}
use borrow.Author.Tests.{lt-ltb, le-ltb}
use Rattle.octets.specs.Append.{width_from, number_text}
use Rattle.octets.proofs.CaseLaws.{by_lt}
use Rattle.octets.proofs.AppendLaws.{width_one, width_suc, length_last}
use Rattle.address.specs.declared.Address.{Address}
use Rattle.address.specs.declared.Address.TheVariants.{V4, V6}
use Rattle.address.specs.declared.write.Run.{Run}
use Rattle.address.specs.Canonical.{each_after, joined, dotted_numbers, ipv4_text, group_text, four_groups, groups_of, longest_run, shortened, ipv6_text, address_text}
use Rattle.address.proofs.WriteLaws.{width_few}
use Rattle.address.proofs.RunLaws.{IsRun, longest_is}
use Rattle.address.proofs.TextLaws.{length_group}
use Rattle.address.proofs.JoinLaws.{joined_some}

-- ---- IPv4
width_octet : (n : ℕ) → n < 256 → (1 ≤ width_from 19 n) × (width_from 19 n ≤ 3)
width_octet n m =
    by_lt n 10 _ (λ h. rw (width_one 19 n h) (omega arith, omega arith)) λ g.
    rw (width_suc 18 n g)
    (by_lt n 100 _ (λ h. rw (width_one 18 (n / 10) (omega arith)) (omega arith, omega arith)) λ k.
    rw (width_suc 17 (n / 10) (omega arith), width_one 17 (n / 10 / 10) (omega arith)) (omega arith, omega arith))

length_octet : (n : ℕ) → n < 256 → (1 ≤ length (number_text n)) × (length (number_text n) ≤ 3)
unfolding number_text
length_octet n h = rw (length_last (width_from 19 n) n) (width_octet n h)

length_ipv4 : (n : ℕ) → (0 < length (ipv4_text n)) × (length (ipv4_text n) ≤ 15)
unfolding ipv4_text dotted_numbers joined each_after
length_ipv4 n =
    let (p, a) = length_octet (n / 2 ^ 24 % 256) (omega arith) in
    let (q, b) = length_octet (n / 65536 % 256) (omega arith) in
    let (r, c) = length_octet (n / 256 % 256) (omega arith) in
    let (s, d) = length_octet (n % 256) (omega arith) in
    simp length-append (omega arith, omega arith)

-- ---- IPv6
length_each : (gs : List ℕ) → length (each_after 58 group_text gs) ≤ 5 * length gs
unfolding each_after
length_each [] = omega arith
length_each (g ∷ gs) = let h = length_each gs in omega (arith, length-append (group_text g) (each_after 58 group_text gs), length_group g, width_few g)

length_joined : (gs : List ℕ) → length (joined 58 group_text gs) ≤ 5 * length gs - 1
unfolding joined
length_joined [] = omega arith
length_joined (g ∷ gs) = let h = length_each gs in omega (arith, length-append (group_text g) (each_after 58 group_text gs), length_group g, width_few g)

length_shortened : (gs : List ℕ) (r : Run) → length gs ≡ 8 → IsRun gs r → (0 < length (shortened gs r)) × (length (shortened gs r) ≤ 39)
unfolding shortened
length_shortened gs r h w =
    let i = w.inside in
    by_lt r.len 2 _
    (λ p. rw (lt-ltb r.len 2 p) (omega (arith, joined_some gs (omega arith)), omega (arith, length_joined gs)))
    (λ p. let ll : length (take r.start gs) ≡ r.start = length-take-le r.start gs (omega arith) in
    let lr = length-drop (r.start + r.len) gs in
    let la = length-append (joined 58 group_text (take r.start gs)) (58 ∷ 58 ∷ joined 58 group_text (drop (r.start + r.len) gs)) in
    rw (le-ltb r.len 2 p) (omega arith, omega (arith, length_joined (take r.start gs), length_joined (drop (r.start + r.len) gs))))

length_ipv6 : (high low : ℕ) → (0 < length (ipv6_text high low)) × (length (ipv6_text high low) ≤ 39)
unfolding ipv6_text groups_of four_groups
length_ipv6 high low = length_shortened (groups_of high low) (longest_run (groups_of high low)) refl (longest_is (groups_of high low))

-- ---- either
pub length_address : (a : Address) → length (address_text a) ≤ 39
unfolding address_text
length_address (V4 n) = omega (arith, (length_ipv4 n).1)
length_address (V6 high low) = (length_ipv6 high low).1

pub address_some : (a : Address) → 0 < length (address_text a)
unfolding address_text
address_some (V4 n) = (length_ipv4 n).0
address_some (V6 high low) = (length_ipv6 high low).0
