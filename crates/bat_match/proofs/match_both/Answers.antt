-- `match_both` meets its contract: the choice is that of the match, and so is what is written.
-- Assumes nothing.
use borrow.Author.Rules.{rules}
use Rattle.bat_match.proofs.SearchLaws.{found_at}
use Rattle.bat_match.proofs.AnswerLaws.{answers_found, answers_none}
use Rattle.bat_match.proofs.match_both.Goals as goal

pub put_reduced-requires : goal.put_reduced-requires
put_reduced-requires c = search (found_at, rules)

pub returns-in-Ok : goal.returns-in-Ok
returns-in-Ok c = search (answers_found, rules)

pub returns-in-Err : goal.returns-in-Err
returns-in-Err c = search (answers_none, rules)
