-- `lines::is_origin` meets its contract: six tokens are cut, and two of them tested.
-- Assumes nothing.
use Rattle.description.proofs.LineLaws.{origin_six}
use Rattle.description.proofs.lines.is_origin.Goals as goal

pub returns-else-equals-2 : goal.returns-else-equals-2
returns-else-equals-2 c =
    origin_six _ _ c.cut.ensures.tokens _ c.in-Some.is _ c.text.ensures _ c.equals.ensures c.if-equals.true _ c.text-family.ensures _ c.equals-then-equals.ensures
    c.if-equals-2.false _ c.equals-else-equals-2.ensures
