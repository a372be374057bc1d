-- `stream::push_rtpmap` meets its contract: there is a text, or no line.
-- Assumes nothing.
use borrow.Author.Rules.{rules}
use Rattle.ipbcp_write.proofs.StreamLaws.{rtpmap_none, rtpmap_some}
use Rattle.ipbcp_write.proofs.stream.push_rtpmap.Goals as goal

pub returns-then-is_empty : goal.returns-then-is_empty
returns-then-is_empty c = record { lent = search rules; appends = rtpmap_none _ _ _ _ _ c.text-t.ensures (search rules) }

pub returns : goal.returns
returns c = record { lent = search rules; appends = rtpmap_some _ _ _ _ _ c.text-t.ensures _ _ _ _ _ _ (search rules) c.push_rest.ensures.appends c.push_number_then.ensures.appends c.push.ensures.appends }
