-- `configuring::has_codec` meets its contract. The first entry is there if any is.
-- Assumes nothing.
use borrow.Author.Rules.{rules}
use Rattle.trace.proofs.ConfiguringLaws.{codec_known}
use Rattle.trace.proofs.configuring.has_codec.Goals as goal

pub returns : goal.returns
returns c = search (codec_known, rules)
