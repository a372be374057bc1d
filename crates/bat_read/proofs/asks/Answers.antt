-- `asks` meets its contract: each outcome has its number, which is what is asked for the data.
-- Assumes nothing.
use Rattle.bat_read.proofs.OutcomeLaws.{asking}
use borrow.Author.Rules.{rules}
use Rattle.bat_read.proofs.asks.Goals as goal

pub returns-in-Ok : goal.returns-in-Ok
returns-in-Ok c = search (asking, rules)

pub returns-in-PassOn : goal.returns-in-PassOn
returns-in-PassOn c = search (asking, rules)

pub returns-in-DiscardElement : goal.returns-in-DiscardElement
returns-in-DiscardElement c = search (asking, rules)

pub returns-in-DiscardData : goal.returns-in-DiscardData
returns-in-DiscardData c = search (asking, rules)

pub returns-in-Release : goal.returns-in-Release
returns-in-Release c = search (asking, rules)
