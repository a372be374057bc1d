-- `framing::first_element` meets its contract: each way that the code leaves is one case of `front`; the last names its facts one by one, since they are many.
-- Assumes nothing.
use Rattle.bat.proofs.FrameLaws.{fronts, front_framed}
use native.Mathlib.Omega.{arith}
use borrow.Author.Rules.{rules}
use Rattle.bat.proofs.framing.first_element.Goals as goal

pub returns-then-s-lt1 : goal.returns-then-s-lt1
returns-then-s-lt1 c = search (fronts, rules)

pub returns-in_default : goal.returns-in_default
returns-in_default c = search (fronts, rules)

pub returns-then-m-eq0 : goal.returns-then-m-eq0
returns-then-m-eq0 c = search (fronts, rules)

pub returns-then-u-m : goal.returns-then-u-m
returns-then-u-m c = search (fronts, rules)

pub returns-then-m-x : goal.returns-then-m-x
returns-then-m-x c = search (fronts, rules)

pub returns : goal.returns
returns c =
    front_framed _ (omega arith) _ c.after-t.ensures _ c.read_size.ensures _ (cc) c.if-m-eq0.false _
    c.after-u.ensures (omega arith) _ c.up_to-c.ensures _ c.count_unmarked-x.ensures _ (omega arith) c.octet_at.ensures
