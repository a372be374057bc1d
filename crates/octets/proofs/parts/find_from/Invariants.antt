-- `parts::find_from` meets its contract. Each turn leaves `find_at` of the position as it is, and the octet there, or the end, says what it is.
-- Assumes nothing.
use mathlib.Core.Path.{◌≡◌}
use Rattle.octets.specs.Split.{find_at}
use Rattle.octets.proofs.parts.find_from.Given as goal

abbrev pub invariant-loop-i : goal.invariant-loop-i
invariant-loop-i l = find_at l.s l.c l.i ≡ find_at l.s l.c l.from
