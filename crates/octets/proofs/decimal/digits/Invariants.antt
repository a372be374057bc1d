-- `decimal::digits` meets its contract. The number so far and the digits that are left give the same answer at each turn.
-- Assumes nothing.
use Prim.Native.Nat.{◌≤◌}
use mathlib.Core.Path.{◌≡◌}
use lib.ListN.{drop}
use Rattle.octets.specs.Decimal.{number_from}
use Rattle.octets.proofs.decimal.digits.Given as goal

abbrev pub invariant-loop-b : goal.invariant-loop-b
invariant-loop-b l = (l.n ≤ 65535) × (number_from l.n (drop l.b-index l.s) ≡ number_from 0 l.s)
