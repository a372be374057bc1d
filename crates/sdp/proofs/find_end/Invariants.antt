-- `find_end` meets its contract: each plain octet is passed, up to the first that is not.
-- Assumes nothing.
use Prim.Native.Nat.{◌-◌}
use lib.ListN.{length}
use Rattle.sdp.specs.Private.{PlainTo}
use Rattle.sdp.proofs.find_end.Given as goal

abbrev pub invariant-loop-n : goal.invariant-loop-n
invariant-loop-n l = PlainTo l.m l.i l.n

abbrev pub decreases-loop-n : goal.decreases-loop-n
decreases-loop-n l = length l.m - l.n
