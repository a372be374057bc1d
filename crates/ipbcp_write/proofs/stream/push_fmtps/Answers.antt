use mathlib.Core.Path.{refl, ◌∙◌}
use Rattle.ipbcp_write.proofs.StreamLaws.{fmtps_none, fmtps_more, fmtps_all}
use Rattle.ipbcp_write.proofs.stream.push_fmtps.Goals as goal

pub loop-sp-init : goal.loop-sp-init
loop-sp-init c = record { lent = refl; appends = fmtps_none c.args.source.now c.as_slice-sp-items.result.now _ _ }

pub loop-sp-preserved : goal.loop-sp-preserved
loop-sp-preserved c = record {
  lent = c.push_fmtp.ensures.lent ∙ c.loop-sp.invariant.lent;
  appends = fmtps_more _ _ _ _ _ _ _ _ _ _ _ c.loop-sp-test.true c.text.ensures c.push_fmtp.ensures.appends c.loop-sp.invariant.appends;
}

pub returns : goal.returns
returns c = record {
  lent = c.loop-sp.invariant.lent;
  appends = fmtps_all _ _ _ _ _ _ _ _ c.as_slice-sp-items.ensures.places c.loop-sp-test.false c.loop-sp.invariant.appends;
}
