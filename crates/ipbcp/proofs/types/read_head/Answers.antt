use mathlib.Core.Path.{◌∙◌}
use borrow.Author.Rules.{rules}
use Rattle.ipbcp.proofs.TypeLaws.{heads, head_none, head_found, head_bad, head_more}
use Rattle.sdp.proofs.CutLaws.{loop_falls}
use Rattle.ipbcp.proofs.types.read_head.Goals as goal

pub returns-in_err-line : goal.returns-in_err-line
returns-in_err-line c = c.from_residual.ensures ∙ head_none _ _ _ c.loop-i.invariant _ c.next_line.ensures c.in_err-line.was c.loop-i-test.true

pub returns-then-in_lines : goal.returns-then-in_lines
returns-then-in_lines c = head_found _ _ _ c.loop-i.invariant _ c.next_line.ensures _ c.in_ok-line.was _ c.text-t.ensures _ c.is_ipbcp.ensures _ c.after.ensures _ c.in_lines.ensures c.if-is_ipbcp.true c.if-in_lines.true _ c.read_value.ensures

pub returns-then-is_ipbcp : goal.returns-then-is_ipbcp
returns-then-is_ipbcp c = head_bad _ _ _ c.loop-i.invariant _ c.next_line.ensures _ c.in_ok-line.was _ c.text-t.ensures _ c.is_ipbcp.ensures _ c.after.ensures _ c.in_lines.ensures c.if-is_ipbcp.true c.if-in_lines.false

pub loop-i-smaller : goal.loop-i-smaller
loop-i-smaller c = loop_falls _ _ _ c.next_line.ensures _ c.in_ok-line.was

pub loop-i-preserved : goal.loop-i-preserved
loop-i-preserved c = head_more _ _ _ c.loop-i.invariant _ c.next_line.ensures _ c.in_ok-line.was _ c.text-t.ensures _ c.is_ipbcp.ensures c.if-is_ipbcp.false

pub returns : goal.returns
returns c = search (heads, rules)
