use borrow.Author.Rules.{rules}
use Rattle.ipbcp.proofs.WholeLaws.{preamble_start, preambles, preamble_early}
use Rattle.sdp.proofs.CutLaws.{loop_falls}
use Rattle.ipbcp.proofs.read_short.Goals as goal

pub loop-i-init : goal.loop-i-init
loop-i-init c = search (preamble_start, rules)

pub by_type-requires : goal.by_type-requires
by_type-requires c = search (preambles, rules)

pub by_type-requires-then-p-lt5 : goal.by_type-requires-then-p-lt5
by_type-requires-then-p-lt5 c = preamble_early _ _ _ _ c.loop-i.invariant.0 _ c.next_line.ensures _ c.in-Some.is _ c.text-t.ensures _ c.is_ipbcp.ensures c.if-is_ipbcp.true c.if-p-lt5.true

pub read_typed-requires : goal.read_typed-requires
read_typed-requires c = search (preambles, rules)

pub preamble_line-requires : goal.preamble_line-requires
preamble_line-requires c = search (preambles, rules)

pub by_type-requires-in_default-preamble_line : goal.by_type-requires-in_default-preamble_line
by_type-requires-in_default-preamble_line c = search (preambles, rules)

pub loop-i-smaller : goal.loop-i-smaller
loop-i-smaller c = search (loop_falls, rules)

pub loop-i-preserved : goal.loop-i-preserved
loop-i-preserved c = (search (preambles, rules), search (preambles, rules))

pub by_type-requires-2 : goal.by_type-requires-2
by_type-requires-2 c = search (preambles, rules)
