-- `ipv6::push_zeros` meets its contract. Shifting in the zeros that are left gives the same halves at each step.
-- Assumes nothing.
use Prim.Native.Nat.{◌-◌}
use mathlib.Core.Path.{◌≡◌}
use lib.ListN.{replicate}
use Rattle.address.specs.Private.{push_all}
use Rattle.address.proofs.ipv6.push_zeros.Given as goal

abbrev pub invariant-loop-k : goal.invariant-loop-k
invariant-loop-k l = push_all l.a (replicate (l.n - l._k) 0) ≡ push_all l.initial.a (replicate l.n 0)
