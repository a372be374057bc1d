-- `bat_match_codecs` meets its contract: it answers what `match_lists` does, as numbers.
-- Assumes nothing.
use borrow.Author.Rules.{rules}
use Rattle.bat_match.proofs.AnswerLaws.{answers_c}
use Rattle.bat_match.proofs.bat_match_codecs.Goals as goal

pub returns : goal.returns
returns c = search (answers_c, rules)
