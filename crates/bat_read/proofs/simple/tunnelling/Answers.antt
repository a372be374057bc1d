-- `simple::tunnelling` meets its contract: the test is that of `tunnelling_in`.
-- Assumes nothing.
use Rattle.octets.proofs.Pick.{picks, flags, some_is}
use Rattle.bat.specs.ValueMeaning.{value_inside, value_in, value_by, decoding_in}
use Rattle.bat.specs.Values.{tunnelling_in}
use borrow.Author.Rules.{rules}
use Rattle.bat_read.proofs.simple.tunnelling.Goals as goal

pub returns-then-s-ne1 : goal.returns-then-s-ne1
unfolding decoding_in value_in value_inside value_by tunnelling_in
returns-then-s-ne1 c = search (some_is, picks, flags, rules)

pub returns : goal.returns
unfolding decoding_in value_in value_inside value_by tunnelling_in
returns c = search (some_is, picks, flags, rules)
