use Rattle.bat.proofs.CountLaws.{counts, counted_zero, frame_shorter, ok_is}
use native.Mathlib.Omega.{arith}
use borrow.Author.Rules.{rules}
use Rattle.bat.proofs.framing.count_elements.Goals as goal

pub loop-f-init : goal.loop-f-init
loop-f-init c = (omega arith, counted_zero _)

pub returns-in_err-f : goal.returns-in_err-f
returns-in_err-f c = search (counts, rules)

pub loop-f-smaller : goal.loop-f-smaller
loop-f-smaller c = search (counts, rules)

pub loop-f-preserved : goal.loop-f-preserved
loop-f-preserved c = (omega (arith, frame_shorter _ _ c.first_element.ensures _ (ok_is _ _ _ c.in_ok-f.was c.in-Some.is) _ c.whole_length.ensures _ c.after-rest.ensures), search (counts, rules))

pub returns : goal.returns
returns c = search (counts, rules)
