-- `configuring::close` meets its contract. The codecs say what is printed.
-- Assumes nothing.
use borrow.Author.Rules.{rules}
use Rattle.trace.proofs.ConfiguringLaws.{end_codecs, end_none}
use Rattle.trace.proofs.configuring.close.Goals as goal

pub returns-then-has_codec : goal.returns-then-has_codec
returns-then-has_codec c = search (end_codecs, rules)

pub returns-else-has_codec : goal.returns-else-has_codec
returns-else-has_codec c = search (end_none, rules)
