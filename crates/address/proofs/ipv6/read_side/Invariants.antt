-- `ipv6::read_side` meets its contract. The groups that are left, after those shifted in, give the same side at each step.
-- Assumes nothing.
use Prim.Native.Nat.{◌-◌, ◌≤◌}
use mathlib.Core.Path.{◌≡◌}
use lib.ListN.{length, drop}
use Rattle.octets.specs.Split.{split_on}
use Rattle.address.specs.Ipv6.{parts_of}
use Rattle.address.specs.Private.{side_from}
use Rattle.address.proofs.ipv6.read_side.Given as goal

abbrev pub invariant-loop-g : goal.invariant-loop-g
invariant-loop-g l = (l.i ≤ length l.s) × (l.count ≤ l.i) × (side_from l.count l.halves (split_on 58 (drop l.i l.s)) ≡ side_from 0 l.initial.halves (parts_of l.s))

abbrev pub decreases-loop-g : goal.decreases-loop-g
decreases-loop-g l = length l.s - l.i
