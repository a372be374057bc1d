use mathlib.Core.Path.{refl, sym}
use lib.Seq.{take_all}
use Rattle.ipbcp.specs.Writing.{all_texts_plain}
use Rattle.ipbcp_write.proofs.RangeLaws.{plain_more, plain_out}
use Rattle.ipbcp_write.proofs.ranges.are_plain.Goals as goal

pub loop-sp-init : goal.loop-sp-init
unfolding all_texts_plain
loop-sp-init c = refl

pub returns-then-not-all_plain : goal.returns-then-not-all_plain
returns-then-not-all_plain c = plain_out _ _ _ _ c.loop-sp-test.true _ c.text.ensures _ c.all_plain.ensures c.if-not-all_plain.true

pub loop-sp-preserved : goal.loop-sp-preserved
loop-sp-preserved c = plain_more _ _ _ _ c.loop-sp-test.true _ c.text.ensures _ c.all_plain.ensures c.if-not-all_plain.false c.loop-sp.invariant

pub returns : goal.returns
returns c =
    let all = take_all c.loop-sp.sp-index c.args.spans.now c.loop-sp-test.false in
    sym (rw all at c.loop-sp.invariant)
