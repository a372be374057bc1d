-- `lists::one_list` meets its contract: the count of elements, of which there is to be one, gives the refusals.
-- Assumes nothing.
use borrow.Author.Rules.{rules}
use Rattle.bat_match.specs.Private.{OneListIs}
use Rattle.bat_match.proofs.ListLaws.{one_at_most, alone_many, alone_refused}
use Rattle.bat_match.proofs.lists.one_list.Goals as goal

pub only_list-requires : goal.only_list-requires
only_list-requires c = search (one_at_most, rules)

pub returns-in-Err-TableTooShort : goal.returns-in-Err-TableTooShort
unfolding OneListIs
returns-in-Err-TableTooShort c = search (alone_many, rules)

pub returns-in-Err : goal.returns-in-Err
unfolding OneListIs
returns-in-Err c = search (alone_refused, rules)
