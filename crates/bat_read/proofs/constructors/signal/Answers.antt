-- `constructors::signal` meets its contract: each answer of the framing is one case of `signal_in`.
-- Assumes nothing.
use Rattle.bat_read.proofs.ConstructorLaws.{signals}
use borrow.Author.Rules.{rules}
use Rattle.bat_read.proofs.constructors.signal.Goals as goal

pub returns-in-Ok-Some : goal.returns-in-Ok-Some
returns-in-Ok-Some c = search (signals, rules)

pub returns-in-Ok-None : goal.returns-in-Ok-None
returns-in-Ok-None c = search (signals, rules)

pub returns-in-Err : goal.returns-in-Err
returns-in-Err c = search (signals, rules)
