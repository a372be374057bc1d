-- `write::hex_width` meets its contract. The tests of the code are those of the definition.
-- Assumes nothing.
use borrow.Author.Rules.{rules}
use Rattle.octets.proofs.Pick.{picks}
use Rattle.address.specs.Canonical.{hex_width}
use Rattle.address.proofs.WriteLaws.{width_is}
use Rattle.address.proofs.write.hex_width.Goals as goal

pub returns-then-g-lt16 : goal.returns-then-g-lt16
unfolding hex_width
returns-then-g-lt16 c = search (width_is, picks, rules)

pub returns-then-g-lt256 : goal.returns-then-g-lt256
unfolding hex_width
returns-then-g-lt256 c = search (width_is, picks, rules)

pub returns-then-g-lt4096 : goal.returns-then-g-lt4096
unfolding hex_width
returns-then-g-lt4096 c = search (width_is, picks, rules)

pub returns : goal.returns
unfolding hex_width
returns c = search (width_is, picks, rules)
