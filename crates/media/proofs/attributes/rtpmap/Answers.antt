-- `attributes::rtpmap` meets its contract: the code makes the definition's tests in their order, and the stored span stands for what is after the blank.
-- Assumes nothing.
use borrow.Author.Tests.{ne_eqb}
use borrow.Author.Rules.{rules}
use Rattle.octets.proofs.Pick.{cond_yes, cond_no, and_no_left, flag_yes, flag_no}
use Rattle.octets.proofs.DecimalLaws.{on_value, on_bad}
use Rattle.media.specs.Attributes.{rtpmap_of}
use Rattle.media.specs.Meaning.{stream_by, taken_by}
use Rattle.media.proofs.LineLaws.{rtpmap_empty, rtpmap_read}
use Rattle.media.proofs.attributes.rtpmap.Goals as goal

pub returns-then-not-is_empty : goal.returns-then-not-is_empty
unfolding rtpmap_of taken_by stream_by
returns-then-not-is_empty c = search (cond_no, flag_no, rules)

pub returns-in_err-payload : goal.returns-in_err-payload
unfolding rtpmap_of taken_by stream_by
returns-in_err-payload c = rw c.from_residual.ensures (search (cond_yes, flag_yes, on_bad, c.token_number.ensures, c.in_err-payload.was, rules))

pub returns-then-payload-s : goal.returns-then-payload-s
unfolding rtpmap_of taken_by stream_by
returns-then-payload-s c = search (cond_yes, cond_no, flag_yes, on_value, c.token_number.ensures, c.in_ok-payload.was, and_no_left, ne_eqb, rules)

pub returns-then-is_empty : goal.returns-then-is_empty
returns-then-is_empty c =
    rtpmap_empty _ _ _ _ _ _ _ _ c.is_empty.ensures c.if-not-is_empty.false c.token_number.ensures c.in_ok-payload.was c.if-payload-s.false c.span_after_blank-new.ensures c.is_empty-2.ensures c.if-is_empty.true

pub returns : goal.returns
returns c =
    rtpmap_read _ _ _ _ _ _ _ _ c.is_empty.ensures c.if-not-is_empty.false c.token_number.ensures c.in_ok-payload.was c.if-payload-s.false c.span_after_blank-new.ensures c.is_empty-2.ensures _ c.if-is_empty.false c.fitting.ensures
