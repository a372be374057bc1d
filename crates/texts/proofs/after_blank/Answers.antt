-- `after_blank` meets its contract: there is a blank, or the end.
-- Assumes nothing.
use borrow.Author.Rules.{rules}
use Rattle.texts.proofs.TokenLaws.{after_blanks}
use Rattle.texts.proofs.after_blank.Goals as goal

pub returns-then-s-e : goal.returns-then-s-e
returns-then-s-e c = search (after_blanks, rules)

pub returns : goal.returns
returns c = search (after_blanks, rules)
