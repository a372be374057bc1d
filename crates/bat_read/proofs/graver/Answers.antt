-- `graver` meets its contract: the numbers are ordered as the outcomes are grave.
-- Assumes nothing.
use Rattle.bat_read.proofs.OutcomeLaws.{graver}
use borrow.Author.Rules.{rules}
use Rattle.bat_read.proofs.graver.Goals as goal

pub returns-in-ReleaseAll : goal.returns-in-ReleaseAll
returns-in-ReleaseAll c = search (graver, rules)

pub returns-in-Neither : goal.returns-in-Neither
returns-in-Neither c = search (graver, rules)

pub returns-in-ReleaseAll-b : goal.returns-in-ReleaseAll-b
returns-in-ReleaseAll-b c = search (graver, rules)

pub returns-in-DiscardAll-b : goal.returns-in-DiscardAll-b
returns-in-DiscardAll-b c = search (graver, rules)

pub returns-in-Neither-b : goal.returns-in-Neither-b
returns-in-Neither-b c = search (graver, rules)
