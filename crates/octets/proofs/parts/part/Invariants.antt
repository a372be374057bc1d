-- `parts::part` meets its contract. Each turn passes one part over, so the part that is left to find stays the same.
-- Assumes nothing.
use Prim.Native.Nat.{◌-◌, ◌≤◌}
use mathlib.Core.Path.{◌≡◌}
use lib.ListN.{length, drop}
use Rattle.octets.specs.Split.{split_on, part_at}
use Rattle.octets.proofs.parts.part.Given as goal

abbrev pub invariant-loop : goal.invariant-loop
invariant-loop l = (l.i ≤ length l.s) × (l.counter ≤ l.k) × (part_at (l.k - l.counter) (split_on l.c (drop l.i l.s)) ≡ part_at l.k (split_on l.c l.s))
