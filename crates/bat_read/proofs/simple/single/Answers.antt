-- `simple::single` meets its contract: the test is that of `single_in`, and the span stands for what follows the organisation.
-- Assumes nothing.
use Rattle.octets.proofs.Pick.{picks, flags, some_is}
use Rattle.bat.specs.ValueMeaning.{value_inside, value_in, value_by, decoding_in}
use Rattle.bat.specs.Values.{single_in}
use borrow.Author.Rules.{rules}
use Rattle.bat_read.proofs.simple.single.Goals as goal

pub returns-then-is_codec : goal.returns-then-is_codec
unfolding decoding_in value_in value_inside value_by single_in
returns-then-is_codec c = rw (c.rest.ensures.within, c.rest.ensures.is, c.octet_at.ensures) (search (some_is, picks, flags, rules))

pub returns : goal.returns
unfolding decoding_in value_in value_inside value_by single_in
returns c = search (some_is, picks, flags, rules)
