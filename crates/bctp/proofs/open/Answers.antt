-- `open` meets its contract: two octets are at the front, or not.
-- Assumes nothing.
use borrow.Author.Rules.{rules}
use Rattle.bctp.proofs.OpenLaws.{fronts}
use Rattle.bctp.proofs.open.Goals as goal

pub returns-then-packet-lt2 : goal.returns-then-packet-lt2
returns-then-packet-lt2 c = search (fronts, rules)
