-- `push_shown` meets its contract. If there are no octets, the word is appended.
-- Assumes nothing.
use borrow.Author.Rules.{rules}
use Rattle.octets.proofs.Pick.{flags}
use Rattle.notation.proofs.Laws.{shows}
use Rattle.notation.proofs.push_shown.Goals as goal

pub returns-then-is_empty : goal.returns-then-is_empty
returns-then-is_empty c = record { lent = search rules; appends = search (shows, flags, rules) }

pub returns : goal.returns
returns c = record { lent = search rules; appends = search (shows, flags, rules) }
