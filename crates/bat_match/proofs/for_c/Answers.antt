-- `for_c` meets its contract, for each choice and each answer of the writer.
-- Assumes nothing.
use borrow.Author.Rules.{rules}
use Rattle.bat_match.proofs.AnswerLaws.{numbering}
use Rattle.bat_match.proofs.for_c.Goals as goal

pub returns-in-Err : goal.returns-in-Err
returns-in-Err c = search (numbering, rules)

pub returns-in-Ok-reduced : goal.returns-in-Ok-reduced
returns-in-Ok-reduced c = search (numbering, rules)

pub returns-in-Err-reduced : goal.returns-in-Err-reduced
returns-in-Err-reduced c = search (numbering, rules)
