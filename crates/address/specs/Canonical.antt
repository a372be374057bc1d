-- Document 01, "Message, version 1", the paragraph on addresses: the one text that is written for an address. IPv4 is four
-- decimal numbers; IPv6 follows RFC 5952, section 4, and never has decimal numbers.
use Rattle.std.specs.Prelude.{ℕ, zero, suc, ◌+◌, ◌-◌, ◌/◌, ◌%◌, ◌^◌, List, [], ◌∷◌, ◌++◌, cond, take, drop, ltb, nat_eq}
use Rattle.std.specs.List.{prefix_len}
use Rattle.octets.specs.Append.{number_text}
use Rattle.octets.specs.Text.{ascii, char}
use Rattle.address.specs.declared.Address.{Address}
use Rattle.address.specs.declared.Address.TheVariants.{V4, V6}
use Rattle.address.specs.declared.write.Run.{Run}

-- ---- numbers with a separator
-- the texts f g of the numbers gs, with c before each
unfoldable pub each_after : ℕ → (ℕ → List ℕ) → List ℕ → List ℕ
each_after c f [] = []
each_after c f (g ∷ gs) = c ∷ (f g ++ each_after c f gs)

-- the texts f g of the numbers gs, with c between them
unfoldable pub joined : ℕ → (ℕ → List ℕ) → List ℕ → List ℕ
joined c f [] = []
joined c f (g ∷ gs) = f g ++ each_after c f gs

-- ---- IPv4
-- its four numbers
unfoldable pub dotted_numbers : ℕ → List ℕ
dotted_numbers n = n / 2 ^ 24 % 256 ∷ n / 65536 % 256 ∷ n / 256 % 256 ∷ n % 256 ∷ []

unfoldable pub ipv4_text : ℕ → List ℕ
ipv4_text n = joined (char ".") number_text (dotted_numbers n)

-- ---- IPv6: a group (RFC 5952, 4.1 and 4.3)
-- the digit that stands for d, in lower case
unfoldable pub low_digit : ℕ → ℕ
low_digit d = cond (ltb d 10) (char "0" + d) (char "a" + (d - 10))

-- g's last k digits
unfoldable pub last_hex : ℕ → ℕ → List ℕ
last_hex zero g = []
last_hex (suc k) g = last_hex k (g / 16) ++ (low_digit (g % 16) ∷ [])

-- how many digits a group has
unfoldable pub hex_width : ℕ → ℕ
hex_width g = cond (ltb g 16) 1 (cond (ltb g 256) 2 (cond (ltb g 4096) 3 4))

-- a group without leading zeros
unfoldable pub group_text : ℕ → List ℕ
group_text g = last_hex (hex_width g) g

-- ---- IPv6: the run of zeros that "::" stands for (RFC 5952, 4.2)
-- the four groups of one half
unfoldable pub four_groups : ℕ → List ℕ
four_groups n = n / 2 ^ 48 % 65536 ∷ n / 2 ^ 32 % 65536 ∷ n / 65536 % 65536 ∷ n % 65536 ∷ []

unfoldable pub groups_of : ℕ → ℕ → List ℕ
groups_of high low = four_groups high ++ four_groups low

-- how many zeros gs starts with
unfoldable pub zeros : List ℕ → ℕ
zeros gs = prefix_len (λ g. nat_eq g 0) gs

-- the longer of r and the run of z zeros at i; r if they are equal
unfoldable pub better : Run → ℕ → ℕ → Run
better r i z = cond (ltb r.len z) (record { start = i; len = z }) r

-- the longest of r and the runs of zeros of gs, whose first group is number i; the first of several as long
unfoldable pub longest_from : Run → ℕ → List ℕ → Run
longest_from r i [] = r
longest_from r i (g ∷ gs) = longest_from (better r i (zeros (g ∷ gs))) (i + 1) gs

unfoldable pub longest_run : List ℕ → Run
longest_run gs = longest_from (record { start = 0; len = 0 }) 0 gs

-- ---- IPv6: the text
-- the groups with "::" for a run of two or more
unfoldable pub shortened : List ℕ → Run → List ℕ
shortened gs r =
    cond (ltb r.len 2) (joined (char ":") group_text gs)
    (joined (char ":") group_text (take r.start gs) ++ (ascii "::" ++ joined (char ":") group_text (drop (r.start + r.len) gs)))

unfoldable pub ipv6_text : ℕ → ℕ → List ℕ
ipv6_text high low = shortened (groups_of high low) (longest_run (groups_of high low))

-- ---- either
unfoldable pub address_text : Address → List ℕ
address_text (V4 n) = ipv4_text n
address_text (V6 high low) = ipv6_text high low
