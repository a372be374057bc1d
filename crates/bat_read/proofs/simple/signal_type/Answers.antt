-- `simple::signal_type` meets its contract: the test is that of `type_in`.
-- Assumes nothing.
use Rattle.octets.proofs.Pick.{picks, flags, some_is}
use Rattle.bat.specs.ValueMeaning.{value_inside, value_in, value_by, decoding_in}
use Rattle.bat.specs.Values.{type_in}
use borrow.Author.Rules.{rules}
use Rattle.bat_read.proofs.simple.signal_type.Goals as goal

pub returns-then-is_type : goal.returns-then-is_type
unfolding decoding_in value_in value_inside value_by type_in
returns-then-is_type c = rw c.octet_at.ensures (search (some_is, picks, flags, rules))

pub returns : goal.returns
unfolding decoding_in value_in value_inside value_by type_in
returns c = search (some_is, picks, flags, rules)
