-- `element::push_element` meets its contract. What the length counts is appended after the length.
-- Assumes nothing.
use borrow.Author.Rules.{rules}
use Rattle.bat_write.proofs.ElementLaws.{element_then}
use Rattle.bat_write.proofs.element.push_element.Goals as goal

pub returns : goal.returns
returns c = search (element_then, rules)
