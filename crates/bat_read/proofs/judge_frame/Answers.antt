-- `judge_frame` meets its contract: what the contents are decoded as decides, and the place at fault is inside contents that are short.
-- Assumes nothing.
use Rattle.bat_read.proofs.FindingLaws.{findings, index_small}
use borrow.Author.Rules.{rules}
use Rattle.bat_read.proofs.judge_frame.Goals as goal

pub index-at-requires : goal.index-at-requires
index-at-requires c = search (index_small, rules)

pub returns-in_default : goal.returns-in_default
returns-in_default c = search (findings, rules)

pub returns : goal.returns
returns c = search (findings, rules)
