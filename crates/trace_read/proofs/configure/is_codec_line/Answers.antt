-- `configure::is_codec_line` meets its contract. It compares the first field.
-- Assumes nothing.
use borrow.Author.Rules.{rules}
use Rattle.trace_read.proofs.FieldLaws.{on_fields}
use Rattle.trace_read.proofs.configure.is_codec_line.Goals as goal

pub returns : goal.returns
returns c = search (on_fields, rules)
