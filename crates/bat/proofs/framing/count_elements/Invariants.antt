-- `framing::count_elements` meets its contract: those counted and those still to count are always the elements of the data.
-- Assumes nothing.
use Prim.Native.Nat.{◌+◌, ◌≤◌}
use mathlib.Core.Path.{◌≡◌}
use lib.ListN.{length}
use Rattle.bat.specs.Private.{count_in}
use Rattle.bat.specs.Framing.{elements}
use Rattle.bat.proofs.CountLaws.{counted}
use Rattle.bat.proofs.framing.count_elements.Given as goal

abbrev pub invariant-loop-f : goal.invariant-loop-f
invariant-loop-f l = (l.n + length l.rest ≤ length l.data) × (counted l.n (elements l.rest) ≡ count_in (elements l.data))

abbrev pub decreases-loop-f : goal.decreases-loop-f
decreases-loop-f l = length l.rest
