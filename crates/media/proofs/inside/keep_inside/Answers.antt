-- `inside::keep_inside` meets its contract: each span of the stream is kept.
-- Assumes nothing.
use borrow.Author.Rules.{rules}
use Rattle.media.proofs.InsideLaws.{kept_stream}
use Rattle.media.proofs.inside.keep_inside.Goals as goal

pub returns : goal.returns
returns c = search (kept_stream, rules)
