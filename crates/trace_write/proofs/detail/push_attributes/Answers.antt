-- `detail::push_attributes` meets its contract. The fields are pushed one after the other.
-- Assumes nothing.
use Rattle.trace_write.specs.Detail.{attributes_shown}
use Rattle.media.specs.Meaning.{stream_by}
use Rattle.trace_write.proofs.PushLaws.{pushes_then}
use Rattle.trace_write.proofs.detail.push_attributes.Goals as goal

pub returns : goal.returns
unfolding attributes_shown stream_by
returns c = rw (← c.text.ensures) (pushes_then c.push_octet.ensures (pushes_then c.push_octets.ensures (pushes_then c.push_octet-2.ensures (pushes_then c.push_texts.ensures (pushes_then c.push_octet-3.ensures c.push_number.ensures)))))
