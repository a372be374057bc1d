-- `ipv6::read_group` meets its contract. The digits that are left, after the number of those before them, give the same group at each step.
-- Assumes nothing.
use Prim.Native.Nat.{◌^◌, ◌<◌}
use mathlib.Core.Path.{◌≡◌}
use lib.ListN.{drop}
use Rattle.address.specs.Private.{read_group}
use Rattle.address.proofs.GroupLaws.{digits_from}
use Rattle.address.proofs.ipv6.read_group.Given as goal

abbrev pub invariant-loop-b : goal.invariant-loop-b
invariant-loop-b l = (l.n < 16 ^ l.b-index) × (digits_from l.n (drop l.b-index l.s) ≡ read_group l.s)
