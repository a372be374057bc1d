-- `write::push_each` meets its contract. The groups passed over are appended, and each step appends one more after a colon.
-- Assumes nothing.
use lib.ListN.{take}
use Rattle.octets.specs.Append.{Pushes}
use Rattle.address.specs.Canonical.{each_after, group_text}
use Rattle.address.proofs.write.push_each.Given as goal

abbrev pub invariant-loop-g : goal.invariant-loop-g
invariant-loop-g l = Pushes l.initial.out l.out (each_after 58 group_text (take l.g-index l.gs))
