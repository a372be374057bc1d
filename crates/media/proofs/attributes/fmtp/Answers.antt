-- `attributes::fmtp` meets its contract: the texts are counted, and the pushed span is the last of them.
-- Assumes nothing.
use borrow.Author.Rules.{rules}
use Rattle.octets.proofs.Pick.{cond_yes, cond_no}
use Rattle.media.specs.Attributes.{fmtp_of}
use Rattle.media.specs.Meaning.{stream_by, taken_by}
use Rattle.media.proofs.TextsLaws.{room, no_room}
use Rattle.media.proofs.LineLaws.{fmtp_stored}
use Rattle.media.proofs.attributes.fmtp.Goals as goal

pub returns-then-as_slice-ge3 : goal.returns-then-as_slice-ge3
unfolding fmtp_of taken_by stream_by
returns-then-as_slice-ge3 c = search (cond_no, no_room, rules)

pub returns : goal.returns
unfolding fmtp_of taken_by stream_by
returns c = search (cond_yes, room, fmtp_stored, rules)
