-- `push_body` meets its contract: a Request and an Accepted have a stream, the others have none.
-- Assumes nothing.
use borrow.Author.Rules.{rules}
use Rattle.ipbcp_write.proofs.WriteLaws.{body_stream, body_none}
use Rattle.ipbcp_write.proofs.push_body.Goals as goal

pub returns-in-Request : goal.returns-in-Request
returns-in-Request c = record { lent = search rules; appends = body_stream _ _ _ _ _ c.in-Request.is _ _ c.push_stream.ensures.appends }

pub returns-in-Confused : goal.returns-in-Confused
returns-in-Confused c = record { lent = search rules; appends = body_none _ _ _ _ c.in-Confused.is }
