-- `hear_wrong` meets its contract.
-- Assumes nothing.
use borrow.Author.Rules.{rules}
use Rattle.judge.proofs.HearingLaws.{wrong_untyped}
use Rattle.judge.proofs.hearing.hear_wrong.Goals as goal

pub returns-in-Some : goal.returns-in-Some
returns-in-Some c = c.hear_described.ensures c.args.m.now (record { version = c.in-Some.head.version; why = c.requires; head = search rules })

pub returns-in-None : goal.returns-in-None
returns-in-None c = search (wrong_untyped, rules)
