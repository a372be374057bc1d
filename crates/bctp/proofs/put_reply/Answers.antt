-- `put_reply` meets its contract: there is room for two octets, or not.
-- Assumes nothing.
use borrow.Author.Rules.{rules}
use Rattle.bctp.proofs.OpenLaws.{replies}
use Rattle.bctp.proofs.put_reply.Goals as goal

pub returns-then-out-lt2 : goal.returns-then-out-lt2
returns-then-out-lt2 c = λ p. search (replies, rules)

pub returns : goal.returns
returns c = λ p. search (replies, rules)
