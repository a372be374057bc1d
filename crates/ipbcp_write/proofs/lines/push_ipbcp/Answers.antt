-- `lines::push_ipbcp` meets its contract: the text up to the type, its word and the end of the line are appended, one after the other.
-- Assumes nothing.
use borrow.Author.Rules.{rules}
use Rattle.ipbcp_write.proofs.LineLaws.{ipbcp_then}
use Rattle.ipbcp_write.proofs.lines.push_ipbcp.Goals as goal

pub returns : goal.returns
returns c = record {
  lent = search rules;
  appends = ipbcp_then _ _ _ _ _ _ c.type_word.ensures _ _ _ _ c.push_end.ensures.appends c.push-2.ensures.appends c.push.ensures.appends;
}
