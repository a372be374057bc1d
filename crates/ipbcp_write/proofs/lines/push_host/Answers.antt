-- `lines::push_host` meets its contract: the words, the address and the end of the line are appended, one after the other.
-- Assumes nothing.
use borrow.Author.Rules.{rules}
use Rattle.ipbcp_write.proofs.LineLaws.{host_then}
use Rattle.ipbcp_write.proofs.lines.push_host.Goals as goal

pub returns : goal.returns
returns c = record {
  lent = search rules;
  appends = host_then _ _ _ _ _ _ _ _ _ _ c.host_start.ensures c.push_end.ensures.appends c.push_address.ensures.appends c.push.ensures.appends;
}
