use Prim.Native.Nat.{◌+◌, ◌-◌}
use mathlib.Core.Path.{◌≡◌}
use lib.ListN.{length-set}
use native.Mathlib.Omega.{arith}
use borrow.Author.Rules.{rules}
use Rattle.octets.proofs.AppendLaws.{number_start, number_turn, number_last}
use Rattle.octets.proofs.append.put_digits.Goals as goal

pub loop-k-init : goal.loop-k-init
loop-k-init c = (omega arith, omega arith, search rules, number_start c.args.n c.args.d.now (search rules))

pub returns-then-m-eq0 : goal.returns-then-m-eq0
returns-then-m-eq0 c =
    let k = c.loop-k.k in
    let z : k - 1 + 1 ≡ k = omega arith in
    number_last c.args.n c.loop-k.m (k - 1) c.loop-k.d (rw z c.loop-k.invariant.3) (omega arith) (λ h. omega arith)

pub loop-k-preserved : goal.loop-k-preserved
loop-k-preserved c =
    let k = c.loop-k.k in
    let z : k - 1 + 1 ≡ k = omega arith in (
      omega arith,
      omega arith,
      simp length-set (search rules),
      number_turn c.args.n c.loop-k.m (k - 1) c.loop-k.d (rw z c.loop-k.invariant.3) (omega arith) (omega arith) (omega arith),
    )

pub returns : goal.returns
returns c =
    let z : c.loop-k.k ≡ 1 = omega arith in
    number_last c.args.n c.loop-k.m 0 c.loop-k.d (rw z at c.loop-k.invariant.3) (omega arith) (λ h. omega arith)
