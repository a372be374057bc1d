-- `parts::pass_fours` meets its contract: each octet that is passed is no c, so the search from the next position finds the same.
-- Assumes nothing.
use mathlib.Core.Path.{◌≡◌}
use Prim.Native.Nat.{◌-◌}
use Rattle.octets.specs.Split.{find_at}
use lib.ListN.{length}
use Rattle.octets.proofs.parts.pass_fours.Given as goal

abbrev pub invariant-loop-n : goal.invariant-loop-n
invariant-loop-n l = (find_at l.s l.c l.n ≡ find_at l.s l.c l.from) × (l.stop ≡ length l.s - 3)

abbrev pub decreases-loop-n : goal.decreases-loop-n
decreases-loop-n l = l.stop - l.n
