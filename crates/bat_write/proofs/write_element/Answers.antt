-- `write_element` meets its contract: a value whose spans are inside the source is written, and any other means nothing.
-- Assumes nothing.
use Rattle.bat_write.proofs.InsideLaws.{inside_writes, inside_none}
use borrow.Author.Rules.{rules}
use Rattle.bat_write.proofs.write_element.Goals as goal

pub returns-then-all_inside : goal.returns-then-all_inside
returns-then-all_inside c = search (inside_writes, inside_none, rules)

pub returns : goal.returns
returns c = search (inside_writes, inside_none, rules)
