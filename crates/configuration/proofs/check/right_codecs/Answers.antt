-- `check::right_codecs` meets its contract. The count says whether the entries lie in the array, and what is asked of each says the rest.
-- Assumes nothing.
use borrow.Author.Rules.{rules}
use Rattle.configuration.proofs.CheckLaws.{codecs_right}
use Rattle.configuration.proofs.check.right_codecs.Goals as goal

pub returns-then-n-le-MOST_CODECS : goal.returns-then-n-le-MOST_CODECS
returns-then-n-le-MOST_CODECS c = search (codecs_right, rules)

pub returns-else-n-le-MOST_CODECS : goal.returns-else-n-le-MOST_CODECS
returns-else-n-le-MOST_CODECS c = search (codecs_right, rules)
