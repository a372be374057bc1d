-- `detail::push_detail` meets its contract. The bearer is pushed after the octets.
-- Assumes nothing.
use Rattle.trace_write.specs.Detail.{detail_text}
use Rattle.trace_write.proofs.PushLaws.{pushes_then}
use Rattle.trace_write.proofs.detail.push_detail.Goals as goal

pub returns : goal.returns
unfolding detail_text
returns c = pushes_then c.push_octet.ensures (pushes_then c.push_octets.ensures (pushes_then c.push_octet-2.ensures c.push_force.ensures))
