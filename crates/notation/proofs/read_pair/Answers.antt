-- `read_pair` meets its contract. Each digit is one, and below 16.
-- Assumes nothing.
use borrow.Author.Rules.{rules}
use Rattle.notation.proofs.OctetsLaws.{pairs}
use Rattle.notation.proofs.read_pair.Goals as goal

pub returns-in_err-high : goal.returns-in_err-high
returns-in_err-high c = search (pairs, c.in_err-high.ensures, rules)

pub returns-in_err-low : goal.returns-in_err-low
returns-in_err-low c = search (pairs, c.in_err-low.ensures, rules)

pub overflow_mul-result : goal.overflow_mul-result
overflow_mul-result c = search (pairs, c.in_ok-high.ensures, rules)

pub overflow_add-result : goal.overflow_add-result
overflow_add-result c = search (pairs, c.in_ok-high.ensures, c.in_ok-low.ensures, rules)

pub returns : goal.returns
returns c = search (pairs, c.in_ok-high.ensures, c.in_ok-low.ensures, rules)
