-- `hex::push_hex` meets its contract. The digits of the octets passed over are appended, and each turn appends those of one more.
-- Assumes nothing.
use lib.ListN.{take}
use Rattle.octets.specs.Append.{Pushes}
use Rattle.octets.specs.Hex.{hex_text}
use Rattle.octets.proofs.hex.push_hex.Given as goal

abbrev pub invariant-loop-b : goal.invariant-loop-b
invariant-loop-b l = Pushes l.initial.out l.out (hex_text (take l.b-index l.src))
