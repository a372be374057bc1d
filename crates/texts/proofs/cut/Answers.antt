use native.Mathlib.Omega.{arith}
use mathlib.Core.Path.{◌∙◌}
use lib.ListN.{replicate, length-replicate, length-set}
use borrow.Author.Tests.{lt-ltb, le-ltb}
use Rattle.texts.specs.Meaning.{cut_in}
use Rattle.texts.proofs.CutLaws.{cut_none, cut_wrong, cut_first, cut_next, cut_all, placed_first, placed_next, placed_all}
use Rattle.texts.proofs.cut.Goals as goal

pub returns-then-this-eq0 : goal.returns-then-this-eq0
unfolding cut_in
returns-then-this-eq0 g c =
    let none_asked = le-ltb 0 g.row.N (omega arith) in
    record { tokens = rw none_asked; places = tt }

pub returns-then-e-from : goal.returns-then-e-from
returns-then-e-from g c =
    let asked = lt-ltb 0 g.row.N (omega arith) in
    record { tokens = rw asked (cut_none _ _ _ _ _ c.find_from-e.ensures _ c.loop-i.invariant.tokens c.loop-i-test.true c.if-e-from.true); places = tt }

pub returns-then-is_last-ends : goal.returns-then-is_last-ends
returns-then-is_last-ends g c =
    let asked = lt-ltb 0 g.row.N (omega arith) in
    record {
      tokens = rw asked (cut_wrong _ _ _ _ _ c.find_from-e.ensures _ c.loop-i.invariant.tokens c.if-is_last-ends.true c.loop-i-test.true);
      places = tt;
    }

pub loop-i-init : goal.loop-i-init
loop-i-init g c = record {
  all_there = length-replicate _ _;
  in_text = omega arith;
  places = placed_first c.args.s.now g.row.N (replicate g.row.N (record { at = 0; len = 0 })) (omega arith);
  tokens = cut_first c.args.s.now g.row.N (replicate g.row.N (record { at = 0; len = 0 })) (omega arith);
}

pub loop-i-preserved : goal.loop-i-preserved
loop-i-preserved g c = record {
  all_there = length-set _ _ _ ∙ c.loop-i.invariant.all_there;
  in_text = omega arith;
  places = placed_next _ _ _ _ _ c.find_from-e.ensures _ c.loop-i.invariant.places c.loop-i.invariant.all_there c.if-is_last-ends.false c.loop-i-test.true;
  tokens = cut_next _ _ _ _ _ c.find_from-e.ensures _ c.loop-i.invariant.tokens c.loop-i.invariant.all_there c.if-e-from.false c.if-is_last-ends.false c.loop-i-test.true;
}

pub returns : goal.returns
returns g c =
    let asked = lt-ltb 0 g.row.N (omega arith) in
    record {
      tokens = rw asked (cut_all _ _ _ _ _ c.loop-i.invariant.tokens c.loop-i.invariant.all_there (omega arith));
      places = placed_all _ _ _ _ _ c.loop-i.invariant.places c.loop-i.invariant.all_there (omega arith);
    }
