-- `by_type` meets its contract: version and type say which number it is.
-- Assumes nothing.
use borrow.Author.Rules.{rules}
use Rattle.ipbcp.proofs.ReadLaws.{by_types, by_wrong, by_type, by_version}
use Rattle.ipbcp.proofs.by_type.Goals as goal
use Rattle.ipbcp.proofs.by_type.Goals.{else-h-eq1-via-then-h-eq1+else-is_described, else-h-eq1-via-else-h-eq1}

pub returns-in_default : goal.returns-in_default
returns-in_default c = search (by_types, rules)

pub returns-then-is_described : goal.returns-then-is_described
returns-then-is_described c = by_wrong _ _ c.read_head.ensures _ c.in-Some.is c.if-h-eq1.true _ c.is_described.ensures c.if-is_described.true c.requires

pub returns : goal.returns
returns c = elim c.else-h-eq1.branch [ else-h-eq1-via-then-h-eq1+else-is_described w ↦ by_type _ _ c.read_head.ensures _ c.in-Some.is w.if-h-eq1.true _ w.is_described.ensures w.if-is_described.false | else-h-eq1-via-else-h-eq1 w ↦ by_version _ _ c.read_head.ensures _ c.in-Some.is w.if-h-eq1.false ]
