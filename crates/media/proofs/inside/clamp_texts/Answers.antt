use mathlib.Core.Path.{refl, ap, ◌∙◌}
use lib.ListN.{length}
use Rattle.media.specs.Meaning.{all_in}
use Rattle.media.proofs.InsideLaws.{same_set, in_more, kept_texts}
use Rattle.media.proofs.inside.clamp_texts.Goals as goal

pub loop-sp-init : goal.loop-sp-init
unfolding all_in
loop-sp-init c = record { same = refl; inside = refl }

pub loop-sp-preserved : goal.loop-sp-preserved
loop-sp-preserved c = record {
  same = same_set _ _ _ _ _ c.clamp.ensures ∙ c.loop-sp.invariant.same;
  inside = in_more _ _ _ _ _ c.clamp.ensures c.loop-sp.invariant.inside;
}

pub returns : goal.returns
returns c = kept_texts _ _ _ _ _ (ap length c.as_slice.ensures.places) c.as_slice.ensures.few c.loop-sp-test.false c.loop-sp.invariant.same c.loop-sp.invariant.inside
