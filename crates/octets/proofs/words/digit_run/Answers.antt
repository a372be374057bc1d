-- `words::digit_run` meets its contract. The tests of the code are those of the definition.
-- Assumes nothing.
use borrow.Author.Rules.{rules}
use Rattle.octets.specs.Words.{digit_run}
use Rattle.octets.proofs.Pick.{picks}
use Rattle.octets.proofs.words.digit_run.Goals as goal

pub returns-then-not-is_empty : goal.returns-then-not-is_empty
unfolding digit_run
returns-then-not-is_empty c = search (picks, rules)

pub returns-else-not-is_empty : goal.returns-else-not-is_empty
unfolding digit_run
returns-else-not-is_empty c = search (picks, rules)
