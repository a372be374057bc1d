-- `read_octets` meets its contract. What is left of the text and of the buffer decides at each step.
-- Assumes nothing.
use Prim.Native.Nat.{◌+◌, ◌/◌}
use mathlib.Core.Path.{◌≡◌}
use mathlib.Core.Bool.{◌&&◌}
use lib.ListN.{length, drop}
use lib.Dec.{leb}
use Rattle.octets.specs.Append.{appended}
use Rattle.octets.specs.Hex.{is_hex}
use Rattle.notation.specs.Notation.{octets_before}
use Rattle.notation.proofs.OctetsLaws.{rest_fits}
use Rattle.notation.proofs.read_octets.Given as goal

abbrev pub invariant-loop-j : goal.invariant-loop-j
invariant-loop-j l = (rest_fits l.t l.j (length l.dst) ≡ (is_hex l.t && leb (length l.t / 2) (length l.initial.dst)))
    × (appended l.dst l.j (octets_before (drop (l.j + l.j) l.t)) ≡ appended l.initial.dst 0 (octets_before l.t)) × (length l.dst ≡ length l.initial.dst)
