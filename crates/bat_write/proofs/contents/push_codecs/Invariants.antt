-- `contents::push_codecs` meets its contract. Whatever goes on from the buffer with the elements that are left ends as all of them appended to the first buffer; each turn appends one.
-- Assumes nothing.
use Prim.Native.Nat.{ℕ}
use mathlib.Core.Path.{◌≡◌}
use mathlib.Core.List.{List}
use lib.ListN.{length}
use Rattle.octets.specs.Append.{Appends}
use Rattle.bat_write.specs.Private.{codecs_anew}
use Rattle.bat_write.proofs.contents.push_codecs.Given as goal

abbrev pub invariant-loop-f : goal.invariant-loop-f
invariant-loop-f l = (length l.out ≡ length l.initial.out) × ((r : ℕ) (g : List ℕ) → Appends l.out l.k (codecs_anew l.rest) r g → Appends l.initial.out l.at (codecs_anew l.s) r g)

abbrev pub decreases-loop-f : goal.decreases-loop-f
decreases-loop-f l = length l.rest
