-- `read_length` meets its contract. A number up to 65535 is the length, otherwise the rest of the definition decides.
-- Assumes nothing.
use borrow.Author.Rules.{rules}
use Rattle.notation.proofs.Laws.{lengths}
use Rattle.notation.proofs.read_length.Goals as goal

pub returns-in-Some : goal.returns-in-Some
returns-in-Some c = search (lengths, rules)

pub returns-in-None : goal.returns-in-None
returns-in-None c = search (lengths, rules)
