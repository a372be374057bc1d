-- `stream::push_fmtps` meets its contract: the lines so far are those of the first texts.
-- Assumes nothing.
use mathlib.Core.Path.{◌≡◌}
use Rattle.ipbcp_write.proofs.StreamLaws.{Fmtps}
use Rattle.ipbcp_write.proofs.stream.push_fmtps.Given as goal

abbrev pub invariant-loop-sp : goal.invariant-loop-sp
invariant-loop-sp l = record {
  lent : l.out.out.ghost_name ≡ l.initial.out.out.ghost_name;
  appends : Fmtps l.source l.sp-items l.initial.out.out.now l.initial.out.at l.sp-index l.out.at l.out.out.now;
}
