-- `pass_fours` meets its contract: what is passed over is plain.
-- Assumes nothing.
use Rattle.sdp.specs.Private.{PlainTo}
use Prim.Native.Nat.{◌-◌}
use lib.ListN.{length}
use Rattle.sdp.proofs.pass_fours.Given as goal

abbrev pub invariant-loop-n : goal.invariant-loop-n
invariant-loop-n l = PlainTo l.m l.i l.n

abbrev pub decreases-loop-n : goal.decreases-loop-n
decreases-loop-n l = length l.m - l.n
