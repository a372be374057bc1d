use mathlib.Core.Path.{refl}
use lib.Seq.{take_all}
use Rattle.media.specs.Meaning.{all_in}
use Rattle.media.proofs.InsideLaws.{all_on, all_out, texts_in, texts_out, texts_many}
use Rattle.media.proofs.inside.texts_inside.Goals as goal

pub returns-then-x-gt3 : goal.returns-then-x-gt3
returns-then-x-gt3 c = texts_many _ _ c.if-x-gt3.true

pub loop-sp-init : goal.loop-sp-init
unfolding all_in
loop-sp-init c = refl

pub returns-then-not-is_inside : goal.returns-then-not-is_inside
returns-then-not-is_inside c =
    texts_out _ _ _ c.as_slice-sp-items.ensures.places c.if-x-gt3.false
    (all_out _ _ _ _ c.loop-sp-test.true _ c.is_inside.ensures c.if-not-is_inside.true)

pub loop-sp-preserved : goal.loop-sp-preserved
loop-sp-preserved c = all_on _ _ _ _ c.loop-sp-test.true _ c.is_inside.ensures c.if-not-is_inside.false c.loop-sp.invariant

pub returns : goal.returns
returns c =
    let all = take_all c.loop-sp.sp-index c.as_slice-sp-items.result.now c.loop-sp-test.false in
    texts_in _ _ _ c.as_slice-sp-items.ensures.places c.if-x-gt3.false (rw all at c.loop-sp.invariant)
