-- `media_text` meets its contract: the code makes the tests of the definition in their order.
-- Assumes nothing.
use mathlib.Core.Path.{refl}
use Rattle.media.proofs.LineLaws.{media_few, media_no_port, media_no_payload, media_low, media_high, media_read}
use Rattle.media.proofs.media_text.Goals as goal

pub returns-in_err-media : goal.returns-in_err-media
returns-in_err-media c = media_few _ _ _ c.cut.ensures.tokens _ c.in_err-media.was c.from_residual.ensures

pub returns-in_err-p : goal.returns-in_err-p
returns-in_err-p c =
    media_no_port _ _ _ c.cut.ensures.tokens _ _ c.in_ok-media.was _ c.text.ensures _ c.read_number.ensures
    c.in_err-p.was c.from_residual-in_err-p.ensures

pub returns-in_err-n : goal.returns-in_err-n
returns-in_err-n c =
    media_no_payload _ _ _ c.cut.ensures.tokens _ _ c.in_ok-media.was _ c.text.ensures _ c.read_number.ensures _ c.in_ok-p.was _ c.text-2.ensures _ c.read_number-2.ensures
    c.in_err-n.was c.from_residual-in_err-n.ensures

pub returns-then-p-lt-LEAST_PORT : goal.returns-then-p-lt-LEAST_PORT
returns-then-p-lt-LEAST_PORT c =
    media_low _ _ _ c.cut.ensures.tokens _ _ c.in_ok-media.was _ c.text.ensures _ c.read_number.ensures _ c.in_ok-p.was _ c.text-2.ensures _ c.read_number-2.ensures
    _ c.in_ok-n.was c.if-p-lt-LEAST_PORT.true refl

pub returns-then-n-gt127 : goal.returns-then-n-gt127
returns-then-n-gt127 c =
    media_high _ _ _ c.cut.ensures.tokens _ _ c.in_ok-media.was _ c.text.ensures _ c.read_number.ensures _ c.in_ok-p.was _ c.text-2.ensures _ c.read_number-2.ensures
    _ c.in_ok-n.was c.if-p-lt-LEAST_PORT.false c.if-n-gt127.true refl

pub returns : goal.returns
returns c =
    media_read _ _ _ c.cut.ensures.tokens _ _ c.in_ok-media.was _ c.text.ensures _ c.read_number.ensures _ c.in_ok-p.was _ c.text-2.ensures _ c.read_number-2.ensures
    _ c.in_ok-n.was _ _ c.if-p-lt-LEAST_PORT.false c.if-n-gt127.false c.requires c.bare_stream.ensures refl
