-- `framing::contents` meets its contract: the text after the head is what the frame stands for.
-- Assumes nothing.
use Rattle.bat.proofs.FrameLaws.{text_contents}
use borrow.Author.Rules.{rules}
use Rattle.bat.proofs.framing.contents.Goals as goal

pub returns : goal.returns
returns c = search (text_contents, rules)
