use mathlib.Core.Path.{refl}
use lib.Seq.{take_all}
use Rattle.media.specs.Meaning.{texts_by}
use Rattle.media.specs.Stream.{octets_together}
use Rattle.media.proofs.LimitLaws.{fmtps_more}
use Rattle.media.proofs.limit.fmtp_octets.Goals as goal

pub loop-sp-init : goal.loop-sp-init
unfolding octets_together
loop-sp-init c = refl

pub loop-sp-preserved : goal.loop-sp-preserved
loop-sp-preserved c = fmtps_more _ _ _ _ _ _ _ c.loop-sp-test.true c.loop-sp.invariant c.fmtp_line.ensures c.cap-n.ensures

pub returns : goal.returns
unfolding texts_by
returns c =
    let all = take_all c.loop-sp.sp-index c.as_slice-sp-items.result.now c.loop-sp-test.false in
    rw (← c.as_slice-sp-items.ensures.places) (rw all at c.loop-sp.invariant)
