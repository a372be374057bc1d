-- The octets of an address's text are visible: digits, letters, dots and colons, so no blank and nothing below it.
-- Assumes nothing.
use Prim.Native.Nat.{ℕ, ◌+◌, ◌≤◌}
use mathlib.Core.Path.{◌≡◌}
use mathlib.Core.List.{List}
use mathlib.Core.Bool.{false}
use lib.ListN.{take, drop}
use lib.Dec.{ltb}
use native.Mathlib.Omega.{arith}
use borrow.Author.Tests.{lt-leb, lt-ltb, ne_eqb}
use Rattle.octets.specs.Append.{number_text}
use Rattle.octets.specs.Decimal.{is_digit}
use Rattle.octets.specs.Hex.{is_hex_digit}
use Rattle.octets.specs.Split.{has}
use Rattle.octets.proofs.CaseLaws.{by_bool}
use Rattle.octets.proofs.RoundTrip.{number_has}
use Rattle.address.specs.declared.Address.{Address}
use Rattle.address.specs.declared.Address.TheVariants.{V4, V6}
use Rattle.address.specs.declared.write.Run.{Run}
use Rattle.address.specs.Canonical.{joined, dotted_numbers, ipv4_text, group_text, groups_of, longest_run, shortened, ipv6_text, address_text}
use Rattle.address.proofs.TextLaws.{group_has}
use Rattle.address.proofs.JoinLaws.{has_append, has_joined}

ipv4_has : (c n : ℕ) → is_digit c ≡ false → (46 ≡ c → ⊥) → has c (ipv4_text n) ≡ false
unfolding ipv4_text
ipv4_has c n p e = has_joined c 46 number_text e (λ m. number_has c m p) (dotted_numbers n)

shortened_has : (c : ℕ) (gs : List ℕ) (r : Run) → is_hex_digit c ≡ false → (58 ≡ c → ⊥) → has c (shortened gs r) ≡ false
unfolding shortened has
shortened_has c gs r p e =
    let f : (ns : List ℕ) → has c (joined 58 group_text ns) ≡ false = has_joined c 58 group_text e (λ g. group_has c g p) in
    by_bool (ltb r.len 2) _
    (λ t. rw t (f gs))
    (λ t. rw t (has_append c (joined 58 group_text (take r.start gs)) _ (f (take r.start gs)) (rw (ne_eqb 58 c e) (f (drop (r.start + r.len) gs)))))

pub ipv6_has : (c high low : ℕ) → is_hex_digit c ≡ false → (58 ≡ c → ⊥) → has c (ipv6_text high low) ≡ false
unfolding ipv6_text
ipv6_has c high low p e = shortened_has c (groups_of high low) (longest_run (groups_of high low)) p e

digit_not : (c : ℕ) → c ≤ 32 → is_digit c ≡ false
unfolding is_digit
digit_not c h = rw (lt-leb 48 c (omega arith))

hex_not : (c : ℕ) → c ≤ 32 → is_hex_digit c ≡ false
unfolding is_hex_digit
hex_not c h = rw (lt-ltb c 48 (omega arith))

pub address_has : (a : Address) (c : ℕ) → c ≤ 32 → has c (address_text a) ≡ false
unfolding address_text
address_has (V4 n) c h = ipv4_has c n (digit_not c h) (λ e. omega arith)
address_has (V6 high low) c h = ipv6_has c high low (hex_not c h) (λ e. omega arith)
