-- `ipv6::find_gap` meets its contract. No "::" starts before the position, so where the first one starts in what is left stays the same.
-- Assumes nothing.
use Prim.Native.Nat.{◌+◌, ◌-◌, ◌≤◌}
use mathlib.Core.Path.{◌≡◌}
use lib.ListN.{length, drop}
use Rattle.address.specs.Ipv6.{before_gap}
use Rattle.address.proofs.ipv6.find_gap.Given as goal

abbrev pub invariant-loop-i : goal.invariant-loop-i
invariant-loop-i l = (l.i - 1 ≤ length l.s) × (l.i - 1 + length (before_gap (drop (l.i - 1) l.s)) ≡ length (before_gap l.s))
