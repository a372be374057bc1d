-- `push_octets` meets its contract. The word is `-`.
-- Assumes nothing.
use borrow.Author.Rules.{rules}
use Rattle.notation.proofs.Laws.{octets_word}
use Rattle.notation.proofs.push_octets.Goals as goal

pub returns : goal.returns
returns c = record { lent = search rules; appends = search (octets_word, rules) }
