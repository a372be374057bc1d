-- `chosen_part` meets its contract: the flag says which list leads.
-- Assumes nothing.
use borrow.Author.Rules.{rules}
use Rattle.bat_match.proofs.PartLaws.{own_leads, offered_leads}
use Rattle.bat_match.proofs.chosen_part.Goals as goal

pub returns-then-own_leads : goal.returns-then-own_leads
returns-then-own_leads c = search (own_leads, rules)

pub returns : goal.returns
returns c = search (offered_leads, rules)
