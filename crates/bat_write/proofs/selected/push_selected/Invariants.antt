-- `selected::push_selected` meets its contract. Whatever goes on from the buffer with the selected elements that are left ends as all of them appended to the first buffer; each turn appends one, or none.
-- Assumes nothing.
use mathlib.Core.Path.{◌≡◌}
use lib.ListN.{length}
use Rattle.bat_write.proofs.SelectedLaws.{Pushing}
use Rattle.bat_write.proofs.selected.push_selected.Given as goal

abbrev pub invariant-loop-f : goal.invariant-loop-f
invariant-loop-f l = (length l.out ≡ length l.initial.out) × Pushing l.selection l.s l.initial.out l.at l.flags l.rest l.out l.k

abbrev pub decreases-loop-f : goal.decreases-loop-f
decreases-loop-f l = length l.rest
