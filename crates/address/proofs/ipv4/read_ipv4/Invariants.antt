-- `ipv4::read_ipv4` meets its contract. The parts that are left, after the number of those before them, give the same address at each step.
-- Assumes nothing.
use Prim.Native.Nat.{◌-◌, ◌^◌, ◌≤◌, ◌<◌}
use mathlib.Core.Path.{◌≡◌}
use lib.ListN.{length, drop}
use Rattle.octets.specs.Split.{split_on}
use Rattle.address.specs.Ipv4.{read_v4}
use Rattle.address.proofs.Ipv4Laws.{octets_from}
use Rattle.address.proofs.ipv4.read_ipv4.Given as goal

abbrev pub invariant-loop-k : goal.invariant-loop-k
invariant-loop-k l = (l.i ≤ length l.s) × (l.n < 256 ^ l._k) × (octets_from (4 - l._k) l.n (split_on 46 (drop l.i l.s)) ≡ read_v4 l.s)
