-- `configure::read_codec` meets its contract. The empty text is neither a payload nor a name.
-- Assumes nothing.
use borrow.Author.Rules.{rules}
use Rattle.trace_read.proofs.CodecLaws.{eithers}
use Rattle.trace_read.proofs.configure.read_codec.Goals as goal

pub returns-then-digit_run : goal.returns-then-digit_run
returns-then-digit_run c = search (eithers, rules)

pub returns : goal.returns
returns c = search (eithers, rules)
