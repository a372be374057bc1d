-- `configuring::open` meets its contract. Only a whole line gives a configuration.
-- Assumes nothing.
use borrow.Author.Rules.{rules}
use Rattle.trace.proofs.ConfiguringLaws.{whole_kept, part_refused}
use Rattle.trace.proofs.configuring.open.Goals as goal

pub returns-then-whole : goal.returns-then-whole
returns-then-whole c = whole_kept _ _ _ _ _ _ _ c.read_general.ensures c.if-whole.true c.keep.ensures

pub returns : goal.returns
returns c = search (part_refused, rules)
