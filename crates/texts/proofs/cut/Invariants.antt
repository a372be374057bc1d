-- `cut` meets its contract: the spans before i are the tokens before i, and what is left has the others.
-- Assumes nothing.
use Prim.Native.Nat.{◌+◌, ◌≤◌}
use mathlib.Core.Path.{◌≡◌}
use lib.ListN.{length}
use Rattle.texts.proofs.CutLaws.{Cut, Placed}
use Rattle.texts.proofs.cut.Given as goal

abbrev pub invariant-loop-i : goal.invariant-loop-i
invariant-loop-i g l = record {
  all_there : length l.spans ≡ g.row.N;
  in_text : l.from ≤ length l.s + 1;
  places : Placed l.s g.row.N l.spans l.i l.from;
  tokens : Cut l.s g.row.N l.spans l.i l.from;
}
