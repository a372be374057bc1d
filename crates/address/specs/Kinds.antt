-- Document 01, "Message, version 1", the paragraph on addresses: which of them the card can use. Addresses are values here:
-- an IPv4 address one number and an IPv6 address its two halves of 64 bits.
use Rattle.std.specs.Prelude.{◌/◌, ◌^◌, Bool, not, ◌&&◌, ◌||◌, cond, leb, eqb, Option, Some, None}
use Rattle.std.proofs.Math.Option as steps
use Rattle.address.specs.declared.Address.{Address}
use Rattle.address.specs.declared.Address.TheVariants.{V4, V6}

-- IPv4: the first of its four numbers is 1 to 223. IPv6: its first octet is not 255, and it is not all zero.
unfoldable pub is_unicast : Address → Bool
is_unicast (V4 n) = leb 1 (n / 2 ^ 24) && leb (n / 2 ^ 24) 223
is_unicast (V6 high low) = not (eqb (high / 2 ^ 56) 255) && (not (eqb high 0) || not (eqb low 0))

-- the address, if it is unicast
unfoldable pub if_unicast : Address → Option Address
if_unicast a = cond (is_unicast a) (Some a) None

-- by cases on an address that may be missing
unfoldable pub on_address : {X : Type 0} → Option Address → (Address → X) → X → X
on_address (Some a) go bad = go a
on_address None go bad = bad

-- a step of a reading (octets, `Chain`): the rest, given the address that was read
abbrev pub unicast : {X : Type 0} → Option Address → (Address → steps.Option X) → steps.Option X
unicast p rest = on_address p rest steps.none
