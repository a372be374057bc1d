-- `append::put_digits` meets its contract. The digits of what is left of the number and those that are put are its text at each turn.
-- Assumes nothing.
use Prim.Native.Nat.{◌-◌, ◌≤◌}
use mathlib.Core.Path.{◌≡◌}
use mathlib.Core.List.{◌++◌}
use lib.ListN.{length, drop}
use Rattle.octets.specs.Append.{width_from, number_text}
use Rattle.octets.specs.Decimal.{last_digits}
use Rattle.octets.proofs.append.put_digits.Given as goal

abbrev pub invariant-loop-k : goal.invariant-loop-k
invariant-loop-k l = (l.k ≤ 20) × (1 ≤ l.k) × (length l.d ≡ 20) × (last_digits (width_from (l.k - 1) l.m) l.m ++ drop l.k l.d ≡ number_text l.n)
