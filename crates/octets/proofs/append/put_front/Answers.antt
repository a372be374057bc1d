-- `append::put_front` meets its contract: there is room for all of the text, or nothing is written.
-- Assumes nothing.
use Rattle.octets.proofs.PutsLaws.{fronts}
use borrow.Author.Rules.{rules}
use Rattle.octets.proofs.append.put_front.Goals as goal

pub returns-then-out-src : goal.returns-then-out-src
returns-then-out-src c = search (fronts, rules)

pub returns : goal.returns
returns c = search (fronts, rules)
