-- `configure::read_codec_line` meets its contract. There is one field more than there are tabs.
-- Assumes nothing.
use borrow.Author.Rules.{rules}
use Rattle.trace_read.proofs.CodecLaws.{codec_lines}
use Rattle.trace_read.proofs.configure.read_codec_line.Goals as goal

pub returns-then-separators-ne1 : goal.returns-then-separators-ne1
returns-then-separators-ne1 c = search (codec_lines, rules)

pub returns-in_err-codec : goal.returns-in_err-codec
returns-in_err-codec c = search (codec_lines, c.in_err-codec.ensures, rules)

pub returns : goal.returns
returns c = search (codec_lines, c.in_ok-codec.ensures, rules)
