-- `stream::push_ptime` meets its contract: there is a packet time, or no line.
-- Assumes nothing.
use borrow.Author.Rules.{rules}
use Rattle.ipbcp_write.proofs.StreamLaws.{ptime_none, ptime_some}
use Rattle.ipbcp_write.proofs.stream.push_ptime.Goals as goal

pub returns-then-n-eq0 : goal.returns-then-n-eq0
returns-then-n-eq0 c = record { lent = search rules; appends = search (ptime_none, rules) }

pub returns : goal.returns
returns c = record { lent = search rules; appends = ptime_some _ _ _ _ _ _ _ _ _ (search rules) c.push_end.ensures.appends c.push_number.ensures.appends c.push.ensures.appends }
