use Prim.Native.Nat.{◌+◌, ◌-◌}
use mathlib.Core.Path.{◌≡◌}
use native.Mathlib.Omega.{arith}
use borrow.Author.Rules.{rules}
use Rattle.address.proofs.Ipv4Laws.{octets_start, value_small, step_bad, step_dot, step_short, step_long, step_last, octets_next, octets_below}
use Rattle.address.proofs.ipv4.read_ipv4.Goals as goal

pub loop-k-init : goal.loop-k-init
loop-k-init c = search (octets_start, rules)

pub returns-in_err-part : goal.returns-in_err-part
returns-in_err-part c = search (step_bad, rules)

pub returns-then-s-end : goal.returns-then-s-end
returns-then-s-end c = step_short c.args.s.now c.loop-k.i (4 - c.loop-k._k) c.loop-k.n _ c.loop-k.invariant.2 _ c.read_part.ensures c.in_ok-part.part c.in_ok-part.was (omega arith) c.if-s-end.true

pub overflow_mul-n : goal.overflow_mul-n
overflow_mul-n c = let m = octets_below c.loop-k.n c.loop-k._k c.loop-k.invariant.1 (omega arith) in omega arith

pub overflow_add-n : goal.overflow_add-n
overflow_add-n c =
    let m = octets_below c.loop-k.n c.loop-k._k c.loop-k.invariant.1 (omega arith) in
    let v = value_small c.args.s.now c.loop-k.i (4 - c.loop-k._k) c.loop-k.n _ c.loop-k.invariant.2 _ c.read_part.ensures c.in_ok-part.part c.in_ok-part.was in
    omega arith

pub loop-k-preserved : goal.loop-k-preserved
loop-k-preserved c =
    let v = value_small c.args.s.now c.loop-k.i (4 - c.loop-k._k) c.loop-k.n _ c.loop-k.invariant.2 _ c.read_part.ensures c.in_ok-part.part c.in_ok-part.was in
    let e : 4 - (c.loop-k._k + 1) ≡ 3 - c.loop-k._k = omega arith in (
      omega arith,
      octets_next c.loop-k.n c.loop-k._k c.in_ok-part.part.value c.loop-k.invariant.1 v,
      rw e (step_dot c.args.s.now c.loop-k.i (4 - c.loop-k._k) c.loop-k.n _ c.loop-k.invariant.2 _ c.read_part.ensures c.in_ok-part.part c.in_ok-part.was (3 - c.loop-k._k) (omega arith) c.if-s-end.false),
    )

pub returns-in_err-last : goal.returns-in_err-last
returns-in_err-last c = search (step_bad, rules)

pub returns-then-last-s : goal.returns-then-last-s
returns-then-last-s c = step_long c.args.s.now c.loop-k.i (4 - c.loop-k._k) c.loop-k.n _ c.loop-k.invariant.2 _ c.read_part-2.ensures c.in_ok-last.last c.in_ok-last.was (omega arith) c.if-last-s.true

pub overflow_mul-n-2 : goal.overflow_mul-n-2
overflow_mul-n-2 c = let m = octets_below c.loop-k.n c.loop-k._k c.loop-k.invariant.1 (omega arith) in omega arith

pub overflow_add-n-2 : goal.overflow_add-n-2
overflow_add-n-2 c =
    let m = octets_below c.loop-k.n c.loop-k._k c.loop-k.invariant.1 (omega arith) in
    let v = value_small c.args.s.now c.loop-k.i (4 - c.loop-k._k) c.loop-k.n _ c.loop-k.invariant.2 _ c.read_part-2.ensures c.in_ok-last.last c.in_ok-last.was in
    omega arith

pub returns : goal.returns
returns c = step_last c.args.s.now c.loop-k.i (4 - c.loop-k._k) c.loop-k.n _ c.loop-k.invariant.2 _ c.read_part-2.ensures c.in_ok-last.last c.in_ok-last.was (omega arith) c.if_unicast.result c.if-last-s.false c.if_unicast.ensures
