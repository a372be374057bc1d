-- Private: used only by private functions of this crate, for values on the way to an address or its text.
use Rattle.std.specs.Prelude.{ℕ, ◌+◌, ◌*◌, ◌/◌, ◌%◌, ◌^◌, ◌≤◌, ◌≡◌, List, [], ◌∷◌, map, cond, length, drop, leb, Option, Some, None}
use Rattle.octets.specs.Split.{before, find_at}
use Rattle.octets.specs.Decimal.{read_number, on_number}
use Rattle.octets.specs.Text.{char}
use Rattle.address.specs.declared.ipv4.Part.{Part}
use Rattle.address.specs.declared.ipv6.Halves.{Halves}
use Rattle.address.specs.declared.ipv6.Side.{Side}
use Rattle.address.specs.declared.write.Run.{Run}
use Rattle.address.specs.Parts.{all_parts}
use Rattle.address.specs.Ipv6.{is_group, group_value, before_gap, has_gap}
use Rattle.address.specs.Canonical.{hex_width, longest_run}

-- ---- reading IPv4
-- the part that ends at e, if its number z is at most 255
unfoldable pub octet_to : ℕ → Option ℕ → Option Part
octet_to e z = on_number z (λ n. cond (leb n 255) (Some (record { value = n; end = e })) None) None

-- the part of s that starts at i
unfoldable pub octet_at : List ℕ → ℕ → Option Part
octet_at s i = octet_to (find_at s (char ".") i) (read_number (before (char ".") (drop i s)))

-- ---- reading IPv6
-- the group that all of p stands for
unfoldable pub read_group : List ℕ → Option ℕ
read_group p = cond (is_group p) (Some (group_value p)) None

-- where the first "::" of s starts
unfoldable pub gap_at : List ℕ → Option ℕ
gap_at s = cond (has_gap s) (Some (length (before_gap s))) None

-- a group shifted into the two halves
unfoldable pub pushed : Halves → ℕ → Halves
pushed h g =
    record {
      high = h.high % 2 ^ 48 * 65536 + h.low / 2 ^ 48 % 65536;
      low = h.low % 2 ^ 48 * 65536 + g;
    }

unfoldable pub push_all : Halves → List ℕ → Halves
push_all h [] = h
push_all h (g ∷ gs) = push_all (pushed h g) gs

-- a side of k groups
abbrev pub side : ℕ → Halves → Option Side
side k h = Some (record { count = k; halves = h })

-- the groups of ps shifted into h, after k others
unfoldable pub side_from : ℕ → Halves → List (List ℕ) → Option Side
side_from k h ps = cond (all_parts is_group ps) (side (k + length ps) (push_all h (map group_value ps))) None

-- ---- writing
-- r is how many digits the group g has; the bound follows, and is here for callers
pub record HexWidth (g r : ℕ) : Type 0 where
  pub is : r ≡ hex_width g
  pub few : r ≤ 4

-- r is the longest run of zeros of gs; that it lies in gs follows, and is here for callers
pub record Longest (gs : List ℕ) (r : Run) : Type 0 where
  pub is : r ≡ longest_run gs
  pub inside : r.start + r.len ≤ length gs
