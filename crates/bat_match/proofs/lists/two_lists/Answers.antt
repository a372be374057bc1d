-- `lists::two_lists` meets its contract: what each string is by itself gives what the two are.
-- Assumes nothing.
use borrow.Author.Rules.{rules}
use Rattle.bat_match.proofs.ListLaws.{pairs}
use Rattle.bat_match.proofs.lists.two_lists.Goals as goal

pub returns-in-Ok-b : goal.returns-in-Ok-b
returns-in-Ok-b c = search (pairs, rules)

pub returns-in-Err-b : goal.returns-in-Err-b
returns-in-Err-b c = search (pairs, rules)

pub returns-in-Ok-b-2 : goal.returns-in-Ok-b-2
returns-in-Ok-b-2 c = search (pairs, rules)

pub returns-in-Err-b-2 : goal.returns-in-Err-b-2
returns-in-Err-b-2 c = search (pairs, rules)
