-- `configure::add_codec` meets its contract. The entry is stored after those that the configuration has.
-- Assumes nothing.
use borrow.Author.Rules.{rules}
use Rattle.trace_read.proofs.CodecLaws.{adds}
use Rattle.trace_read.proofs.configure.add_codec.Goals as goal

pub returns-then-n-ge-MOST_CODECS : goal.returns-then-n-ge-MOST_CODECS
returns-then-n-ge-MOST_CODECS c = search (adds, rules)

pub returns : goal.returns
returns c = search (adds, rules)
