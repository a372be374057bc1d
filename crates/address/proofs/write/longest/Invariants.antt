-- `write::longest` meets its contract. The longest of the run so far and those that are left is the same run at each step.
-- Assumes nothing.
use Prim.Native.Nat.{◌+◌, ◌≤◌}
use mathlib.Core.Path.{◌≡◌}
use lib.ListN.{length, drop}
use Rattle.address.specs.Canonical.{longest_from, longest_run}
use Rattle.address.proofs.write.longest.Given as goal

abbrev pub invariant-loop-i : goal.invariant-loop-i
invariant-loop-i l = (l.r.start + l.r.len ≤ length l.gs) × (longest_from l.r l.i (drop l.i l.gs) ≡ longest_run l.gs)
