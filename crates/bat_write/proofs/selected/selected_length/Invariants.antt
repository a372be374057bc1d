-- `selected::selected_length` meets its contract. The octets counted and those of the selected elements that are left are always all of them; no more are counted than passed.
-- Assumes nothing.
use Prim.Native.Nat.{◌+◌, ◌≤◌}
use mathlib.Core.Path.{◌≡◌}
use lib.ListN.{length}
use Rattle.bat_write.specs.Private.{selected_anew}
use Rattle.bat_write.proofs.selected.selected_length.Given as goal

abbrev pub invariant-loop-f : goal.invariant-loop-f
invariant-loop-f l = (l.n + length l.rest ≤ length l.s) × (l.n + length (selected_anew l.flags l.rest) ≡ length (selected_anew l.selection l.s))

abbrev pub decreases-loop-f : goal.decreases-loop-f
decreases-loop-f l = length l.rest
