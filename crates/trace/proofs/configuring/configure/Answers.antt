-- `configuring::configure` meets its contract. The first field and the codecs say which line it is.
-- Assumes nothing.
use borrow.Author.Rules.{rules}
use Rattle.trace.proofs.ConfiguringLaws.{codec_line, no_codec_lem, first_event}
use Rattle.trace.proofs.configuring.configure.Goals as goal

pub returns-then-is_codec_line : goal.returns-then-is_codec_line
returns-then-is_codec_line c = search (codec_line, rules)

pub returns-then-has_codec : goal.returns-then-has_codec
returns-then-has_codec c = search (first_event, rules)

pub returns : goal.returns
returns c = search (no_codec_lem, rules)
