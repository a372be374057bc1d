use mathlib.Core.Path.{refl, ap, ◌∙◌}
use Rattle.bat.specs.Elements.{left, placed_in}
use Rattle.bat_match.proofs.PlacedLaws.{seek_start, seek_end, seek_here, seek_on, look_start, look_end, look_here, look_on}
use Rattle.bat_match.proofs.search.first_common.Goals as goal

pub search-init : goal.search-init
search-init c = (look_start _ _ _ _ c.args.leading.singles (ap left c.into_iter-c-iterator.ensures.into_iter_gives ∙ c.codecs-c-items.ensures), refl)

pub loop-d-init : goal.loop-d-init
loop-d-init c = (seek_start _ _ _ _ c.args.other.singles (ap left c.into_iter-d-iterator.ensures.into_iter_gives ∙ c.codecs-d-items.ensures), c.search.invariant.1)

pub search-preserved : goal.search-preserved
search-preserved c = (
  look_on _ _ _ _ c.search.invariant.0 (placed_in c.in-Some.c) _ c.in-Some.ensures.steps _ c.contents-contents.ensures _
      (seek_end _ _ _ _ c.loop-d.invariant.0 c.in-None-d.ensures.steps.0) refl,
  c.loop-d.invariant.1,
)

pub loop-d-preserved : goal.loop-d-preserved
loop-d-preserved c =
    (seek_on _ _ _ _ c.loop-d.invariant.0 (placed_in c.in-Some-d.d) _ c.in-Some-d.ensures.steps _ c.contents.ensures _ c.equals.ensures c.if-equals.false, c.loop-d.invariant.1)

pub returns-in-None : goal.returns-in-None
returns-in-None c = rw c.search.invariant.1 (look_end _ _ _ _ c.search.invariant.0 c.in-None.ensures.steps.0)

pub returns-then-equals : goal.returns-then-equals
returns-then-equals c =
    look_here _ _ _ _ c.search.invariant.0 (placed_in c.in-Some.c) _ c.in-Some.ensures.steps _ c.contents-contents.ensures _
    (seek_here _ _ _ _ c.loop-d.invariant.0 (placed_in c.in-Some-d.d) _ c.in-Some-d.ensures.steps _ c.contents.ensures _ c.equals.ensures c.if-equals.true) refl
