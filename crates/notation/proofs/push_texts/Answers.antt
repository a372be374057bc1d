-- `push_texts` meets its contract. Each text is appended after those before it.
-- Assumes nothing.
use borrow.Author.Rules.{rules}
use Rattle.octets.proofs.Pick.{flags}
use Rattle.notation.proofs.Laws.{joins}
use Rattle.notation.proofs.push_texts.Goals as goal

pub returns-then-is_empty : goal.returns-then-is_empty
returns-then-is_empty c = record { lent = search rules; appends = search (joins, flags, rules) }

pub returns : goal.returns
returns c = record { lent = search rules; appends = search (joins, flags, rules) }
