-- `all_plain` meets its contract: no octet ends the plain part before the end.
-- Assumes nothing.
use borrow.Author.Rules.{rules}
use Rattle.sdp.proofs.EndLaws.{plain_all}
use Rattle.sdp.proofs.all_plain.Goals as goal

pub returns : goal.returns
returns c = search (plain_all, rules)
