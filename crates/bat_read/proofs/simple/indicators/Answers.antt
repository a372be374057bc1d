-- `simple::indicators` meets its contract: the test is that of `indicators_in`, and the span stands for all of the contents.
-- Assumes nothing.
use Rattle.octets.proofs.Pick.{picks, flags, some_is}
use Rattle.bat.specs.ValueMeaning.{value_inside, value_in, value_by, decoding_in}
use Rattle.bat.specs.Values.{indicators_in}
use borrow.Author.Rules.{rules}
use Rattle.bat_read.proofs.simple.indicators.Goals as goal

pub returns-then-are_indicators : goal.returns-then-are_indicators
unfolding decoding_in value_in value_inside value_by indicators_in
returns-then-are_indicators c = rw (c.all.ensures.within, c.all.ensures.is) (search (some_is, picks, flags, rules))

pub returns : goal.returns
unfolding decoding_in value_in value_inside value_by indicators_in
returns c = search (some_is, picks, flags, rules)
