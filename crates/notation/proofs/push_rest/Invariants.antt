-- `push_rest` meets its contract. The texts passed over are appended, and each step appends one more after a comma.
-- Assumes nothing.
use mathlib.Core.List.{map}
use lib.ListN.{take}
use Rattle.octets.specs.Append.{Pushes}
use Rattle.octets.specs.Spans.{text_of}
use Rattle.notation.specs.Notation.{texts_after}
use Rattle.notation.proofs.push_rest.Given as goal

abbrev pub invariant-loop-sp : goal.invariant-loop-sp
invariant-loop-sp l = Pushes l.initial.out l.out (texts_after (map (text_of l.m) (take l.sp-index l.spans)))
