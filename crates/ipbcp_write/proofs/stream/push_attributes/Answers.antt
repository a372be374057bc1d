-- `stream::push_attributes` meets its contract: its lines come one after the other.
-- Assumes nothing.
use borrow.Author.Rules.{rules}
use Rattle.ipbcp_write.proofs.StreamLaws.{attributes_then}
use Rattle.ipbcp_write.proofs.stream.push_attributes.Goals as goal

pub returns : goal.returns
returns c = record { lent = search rules; appends = attributes_then _ _ _ _ _ _ _ _ _ _ c.push_ptime.ensures.appends c.push_fmtps.ensures.appends c.push_rtpmap.ensures.appends }
