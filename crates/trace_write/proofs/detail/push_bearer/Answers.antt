-- `detail::push_bearer` meets its contract. The stream is pushed after the address.
-- Assumes nothing.
use Rattle.trace_write.specs.Detail.{bearer_shown}
use Rattle.bearer.specs.Meaning.{bearer_by}
use Rattle.trace_write.proofs.PushLaws.{pushes_then}
use Rattle.trace_write.proofs.detail.push_bearer.Goals as goal

pub returns : goal.returns
unfolding bearer_shown bearer_by
returns c = pushes_then c.push_address.ensures (pushes_then c.push_media.ensures c.push_attributes.ensures)
