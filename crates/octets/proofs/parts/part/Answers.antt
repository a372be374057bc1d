use Prim.Native.Nat.{◌+◌, ◌-◌}
use mathlib.Core.Path.{◌≡◌}
use native.Mathlib.Omega.{arith}
use Rattle.octets.proofs.PartLaws.{part_next, part_missing, part_here}
use Rattle.octets.proofs.parts.part.Goals as goal

pub returns-then-s-e : goal.returns-then-s-e
returns-then-s-e c =
    part_missing c.args.s.now c.args.c c.loop.i (c.args.k - c.loop.counter) c.find_from-e.result _ c.loop.invariant.2 c.find_from-e.ensures (omega arith) (omega arith)

pub loop-preserved : goal.loop-preserved
loop-preserved c =
    let z : c.args.k - (c.loop.counter + 1) ≡ c.args.k - c.loop.counter - 1 = omega arith in (
      omega arith,
      omega arith,
      rw z (part_next c.args.s.now c.args.c c.loop.i (c.args.k - c.loop.counter) c.find_from-e.result _ c.loop.invariant.2 c.find_from-e.ensures (omega arith) (omega arith)),
    )

pub returns : goal.returns
returns c =
    part_here c.args.s.now c.args.c c.loop.i (c.args.k - c.loop.counter) c.find_from-e-2.result _ c.loop.invariant.2 c.find_from-e-2.ensures (omega arith)
