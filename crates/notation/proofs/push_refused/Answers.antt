-- `push_refused` meets its contract. The number is appended after the word.
-- Assumes nothing.
use borrow.Author.Rules.{rules}
use Rattle.notation.proofs.Laws.{refused_shown_lem}
use Rattle.notation.proofs.push_refused.Goals as goal

pub returns : goal.returns
returns c = record { lent = search rules; appends = search (refused_shown_lem, rules) }
