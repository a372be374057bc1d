use borrow.Author.Rules.{rules}
use Rattle.sdp.proofs.CutLaws.{loop_falls}
use Rattle.ipbcp.proofs.WholeLaws.{laters, later_none, later_wrong, later_more}
use Rattle.ipbcp.proofs.later_lines.Goals as goal

pub loop-i-init : goal.loop-i-init
loop-i-init c = search (laters, rules)

pub returns-in_err-line : goal.returns-in_err-line
returns-in_err-line c = rw c.from_residual.ensures (later_none _ _ _ _ _ c.loop-i.invariant _ c.next_line.ensures c.in_err-line.was c.loop-i-test.true)

pub returns-in_err-stream : goal.returns-in_err-stream
returns-in_err-stream c = rw c.from_residual-in_err-stream.ensures (later_wrong _ _ _ _ _ c.loop-i.invariant _ c.next_line.ensures _ c.in_ok-line.was _ c.later_line.ensures c.in_err-stream.was)

pub loop-i-smaller : goal.loop-i-smaller
loop-i-smaller c = loop_falls _ _ _ c.next_line.ensures _ c.in_ok-line.was

pub loop-i-preserved : goal.loop-i-preserved
loop-i-preserved c = later_more _ _ _ _ _ c.loop-i.invariant _ c.next_line.ensures _ c.in_ok-line.was _ c.later_line.ensures _ c.in_ok-stream.was

pub returns : goal.returns
returns c = search (laters, rules)
