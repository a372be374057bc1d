-- `append::push_octet` meets its contract. There is room for one octet, or none.
-- Assumes nothing.
use borrow.Author.Rules.{rules}
use Rattle.octets.proofs.AppendLaws.{octet_yes, push_none}
use Rattle.octets.proofs.append.push_octet.Goals as goal

pub returns-then-at-out : goal.returns-then-at-out
returns-then-at-out c = search (octet_yes, rules)

pub returns : goal.returns
returns c = search (push_none, rules)
