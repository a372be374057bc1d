-- `write_message` meets its contract: the address and the fields are tested first.
-- Assumes nothing.
use Rattle.ipbcp_write.proofs.WriteLaws.{writes_no_address, writes_none, writes_right}
use Rattle.ipbcp_write.proofs.write_message.Goals as goal
use Rattle.ipbcp_write.proofs.write_message.Goals.{else-is_unicast-via-then-is_unicast+else-right_body, else-is_unicast-via-else-is_unicast}

pub returns-then-right_body : goal.returns-then-right_body
returns-then-right_body c = writes_right _ _ _ _ _ c.is_unicast.ensures c.if-is_unicast.true _ c.right_body.ensures c.if-right_body.true _ _ c.write_right.ensures

pub returns : goal.returns
returns c = elim c.else-is_unicast.branch [
  | else-is_unicast-via-then-is_unicast+else-right_body w ↦ writes_none _ _ _ _ _ c.is_unicast.ensures w.if-is_unicast.true _ w.right_body.ensures w.if-right_body.false
  | else-is_unicast-via-else-is_unicast w ↦ writes_no_address _ _ _ _ _ c.is_unicast.ensures w.if-is_unicast.false
]
