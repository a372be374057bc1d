-- `match_lists` meets its contract: the flag says which list leads.
-- Assumes nothing.
use borrow.Author.Rules.{rules}
use Rattle.bat_match.proofs.AnswerLaws.{own_first, offered_first}
use Rattle.bat_match.proofs.match_lists.Goals as goal

pub returns-then-own_leads : goal.returns-then-own_leads
returns-then-own_leads c = search (own_first, rules)

pub returns : goal.returns
returns c = search (offered_first, rules)
