use mathlib.Core.Path.{ap, ◌∙◌}
use Rattle.bat.specs.Elements.{left, placed_in}
use Rattle.bat_match.specs.Private.{codecs_at, starting_before, flag_of}
use Rattle.bat_match.proofs.SelectionLaws.{flags_start, flags_end, flag_first, flags_more}
use Rattle.bat_match.proofs.selection.select_codecs.Goals as goal

pub loop-c-init : goal.loop-c-init
loop-c-init c = flags_start _ _ _ _ _ c.args.leading.singles (ap left c.into_iter-c-iterator.ensures.into_iter_gives ∙ c.codecs-c-items.ensures)

pub loop-c-preserved-then-c-leading : goal.loop-c-preserved-then-c-leading
loop-c-preserved-then-c-leading c =
    flags_more _ _ _ _ _ _ _ c.loop-c.invariant (placed_in c.in-Some.c) _ c.in-Some.ensures.steps 1
    (flag_first _ _ _ _ _ _ _ c.loop-c.invariant (placed_in c.in-Some.c) _ c.in-Some.ensures.steps c.requires c.if-c-leading.true) _ _ c.push_octet-n.ensures

pub loop-c-preserved : goal.loop-c-preserved
loop-c-preserved c =
    let l = c.args.leading in
    let o = c.args.other in
    flags_more _ _ _ _ _ _ _ c.loop-c.invariant (placed_in c.in-Some.c) _ c.in-Some.ensures.steps _
    (c.flag_of-m.ensures ∙ ap (λ t. flag_of t (starting_before c.in-Some.c.at (codecs_at l.string.now l.from)) (codecs_at o.string.now o.from)) c.contents.ensures) _ _ c.push_octet-n-else-c-leading.ensures

pub returns : goal.returns
returns c = flags_end _ _ _ _ _ _ _ c.loop-c.invariant c.in-None.ensures.steps.0
