-- `simple::address` meets its contract: the test is that of `address_in`, and the span stands for all of the contents.
-- Assumes nothing.
use Rattle.octets.proofs.Pick.{picks, flags, some_is}
use Rattle.bat.specs.ValueMeaning.{value_inside, value_in, value_by, decoding_in}
use Rattle.bat.specs.Values.{address_in}
use borrow.Author.Rules.{rules}
use Rattle.bat_read.proofs.simple.address.Goals as goal

pub returns-then-between : goal.returns-then-between
unfolding decoding_in value_in value_inside value_by address_in
returns-then-between c = rw (c.all.ensures.within, c.all.ensures.is) (search (some_is, picks, flags, rules))

pub returns : goal.returns
unfolding decoding_in value_in value_inside value_by address_in
returns c = search (some_is, picks, flags, rules)
