-- `constructors::timed` meets its contract: each answer of the framing is one case of `timed_by`.
-- Assumes nothing.
use Rattle.bat_read.proofs.ConstructorLaws.{timed_ended, timed_unframed, timed_last}
use borrow.Author.Rules.{rules}
use Rattle.bat_read.proofs.constructors.timed.Goals as goal

pub returns-in-Ok-Some : goal.returns-in-Ok-Some
returns-in-Ok-Some c = λ m. search (timed_last, c.last.ensures, rules)

pub returns-in-Err : goal.returns-in-Err
returns-in-Err c = λ m. search (timed_ended, timed_unframed, rules)

pub returns-in-Ok-None : goal.returns-in-Ok-None
returns-in-Ok-None c = λ m. search (timed_ended, timed_unframed, rules)
