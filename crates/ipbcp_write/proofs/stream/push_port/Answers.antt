-- `stream::push_port` meets its contract: its texts come one after the other.
-- Assumes nothing.
use borrow.Author.Rules.{rules}
use Rattle.ipbcp_write.proofs.StreamLaws.{port_then}
use Rattle.ipbcp_write.proofs.stream.push_port.Goals as goal

pub returns : goal.returns
returns c = record { lent = search rules; appends = port_then _ _ _ _ _ _ _ _ _ _ _ c.text.ensures c.push_number_then.ensures.appends c.push_token.ensures.appends c.push.ensures.appends }
