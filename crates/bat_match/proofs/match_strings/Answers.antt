-- `match_strings` meets its contract: it matches if the two strings are lists.
-- Assumes nothing.
use borrow.Author.Rules.{rules}
use Rattle.bat_match.proofs.ListLaws.{lists_here}
use Rattle.bat_match.proofs.AnswerLaws.{answers_here, answers_refused}
use Rattle.bat_match.proofs.match_strings.Goals as goal

pub match_both-requires : goal.match_both-requires
match_both-requires c = search (lists_here, rules)

pub returns-in-Ok : goal.returns-in-Ok
returns-in-Ok c = search (answers_here, rules)

pub returns-in-Err : goal.returns-in-Err
returns-in-Err c = search (answers_refused, rules)
