-- `append::push` meets its contract: what is left of the text goes after what has been put.
-- Assumes nothing.
use mathlib.Core.Path.{◌≡◌}
use Prim.Native.Nat.{◌+◌}
use lib.ListN.{take, drop}
use Rattle.octets.specs.Append.{put}
use Rattle.octets.proofs.append.push.Given as goal

abbrev pub invariant-loop-j : goal.invariant-loop-j
invariant-loop-j l = put l.out (l.at + l.j) (drop l.j (take l.n l.src)) ≡ put l.fn.out l.at (take l.n l.src)
