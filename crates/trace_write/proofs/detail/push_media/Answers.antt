-- `detail::push_media` meets its contract. The fields are pushed one after the other.
-- Assumes nothing.
use Rattle.trace_write.specs.Detail.{media_shown}
use Rattle.media.specs.Meaning.{stream_by}
use Rattle.trace_write.proofs.PushLaws.{pushes_then}
use Rattle.trace_write.proofs.detail.push_media.Goals as goal

pub returns : goal.returns
unfolding media_shown stream_by
returns c = rw (← c.text.ensures, ← c.text-2.ensures) (pushes_then c.push_octet.ensures (pushes_then c.push_number.ensures (pushes_then c.push_octet-2.ensures (pushes_then c.push.ensures (pushes_then c.push_octet-3.ensures (pushes_then c.push-2.ensures (pushes_then c.push_octet-4.ensures c.push_number-2.ensures)))))))
