use borrow.Author.Rules.{rules}
use Rattle.ipbcp.proofs.WholeLaws.{streams, stream_none, stream_media, stream_wrong, stream_more}
use Rattle.sdp.proofs.CutLaws.{loop_falls}
use Rattle.ipbcp.proofs.read_stream.Goals as goal

pub loop-i-init : goal.loop-i-init
loop-i-init c = search (streams, rules)

pub returns-in_err-line : goal.returns-in_err-line
returns-in_err-line c = rw c.from_residual.ensures (stream_none _ _ _ c.loop-i.invariant _ c.next_line.ensures c.in_err-line.was c.loop-i-test.true)

pub returns-then-line-eq109 : goal.returns-then-line-eq109
returns-then-line-eq109 c = stream_media _ _ _ c.loop-i.invariant _ c.next_line.ensures _ c.in_ok-line.was c.if-line-eq109.true _ c.media_lines.ensures

pub returns-then-not-is_skipped : goal.returns-then-not-is_skipped
returns-then-not-is_skipped c = stream_wrong _ _ _ c.loop-i.invariant _ c.next_line.ensures _ c.in_ok-line.was c.if-line-eq109.false _ c.text.ensures _ c.is_skipped.ensures c.if-not-is_skipped.true

pub loop-i-smaller : goal.loop-i-smaller
loop-i-smaller c = loop_falls _ _ _ c.next_line.ensures _ c.in_ok-line.was

pub loop-i-preserved : goal.loop-i-preserved
loop-i-preserved c = stream_more _ _ _ c.loop-i.invariant _ c.next_line.ensures _ c.in_ok-line.was c.if-line-eq109.false _ c.text.ensures _ c.is_skipped.ensures c.if-not-is_skipped.false

pub returns : goal.returns
returns c = search (streams, rules)
