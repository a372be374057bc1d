-- `open_by` meets its contract: the reply is the one that document 01's check asks for.
-- Assumes nothing.
use borrow.Author.Rules.{rules}
use Rattle.bctp.proofs.OpenLaws.{opening}
use Rattle.bctp.proofs.open_by.Goals as goal

pub returns-then-a-ne0 : goal.returns-then-a-ne0
returns-then-a-ne0 c = search (opening, rules)

pub returns-then-protocol-ne-IPBCP : goal.returns-then-protocol-ne-IPBCP
returns-then-protocol-ne-IPBCP c = search (opening, rules)
