-- `find_lf` meets its contract: the first LF is where what comes before it ends.
-- Assumes nothing.
use Prim.Native.Nat.{◌+◌}
use mathlib.Core.Path.{◌≡◌}
use lib.ListN.{length, drop, length-drop}
use native.Mathlib.Omega.{arith}
use Rattle.octets.specs.Split.{before, find_at}
use Rattle.octets.proofs.SplitLaws.{found}
use Rattle.line_input.proofs.LfLaws.{before_none, before_some}
use Rattle.line_input.proofs.find_lf.Goals as goal

pub returns-in-Some : goal.returns-in-Some
unfolding find_at
returns-in-Some c =
    let (first, here) = c.in-Some.ensures in
    let e = before_some c.after.result.now c.in-Some.k first.high first.before here in
    let k : length (before 10 (drop c.args.from c.args.part.now)) ≡ c.in-Some.k = rw c.after.ensures at e in
    found c.args.part.now 10 c.args.from (c.args.from + c.in-Some.k) (omega arith)

pub returns-in-None : goal.returns-in-None
unfolding find_at
returns-in-None c =
    let e = before_none c.after.result.now c.in-None.ensures in
    let k : length (before 10 (drop c.args.from c.args.part.now)) ≡ length (drop c.args.from c.args.part.now) = rw c.after.ensures at e in
    let l = length-drop c.args.from c.args.part.now in
    found c.args.part.now 10 c.args.from c.max.result (omega arith)
