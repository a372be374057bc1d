-- `read_short` meets its contract: each step reads one line, so the lines left make of the preamble what all make of the first, up to the ipbcp line.
-- Assumes nothing.
use Rattle.description.specs.Draft.{empty_draft}
use Rattle.description.specs.Meaning.{preamble_by}
use Rattle.ipbcp.specs.Types.{head_in}
use Rattle.ipbcp.specs.Private.{after_text}
use Prim.Native.Nat.{◌-◌}
use mathlib.Core.Path.{◌≡◌}
use lib.ListN.{length, drop}
use Rattle.ipbcp.proofs.read_short.Given as goal

abbrev pub invariant-loop-i : goal.invariant-loop-i
invariant-loop-i l = (after_text (preamble_by l.p) (drop l.i l.m) ≡ after_text empty_draft l.m) × (head_in (drop l.i l.m) ≡ head_in l.m)

abbrev pub decreases-loop-i : goal.decreases-loop-i
decreases-loop-i l = length l.m - l.i
