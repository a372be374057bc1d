-- `media_lines` meets its contract: the media line is right, or not.
-- Assumes nothing.
use Rattle.ipbcp.proofs.WholeLaws.{media_wrong, media_read}
use Rattle.ipbcp.proofs.media_lines.Goals as goal

pub returns-in_err-s : goal.returns-in_err-s
returns-in_err-s c = rw c.from_residual.ensures (media_wrong _ _ _ _ c.read_media.ensures c.in_err-s.was)

pub returns : goal.returns
returns c = media_read _ _ _ _ c.read_media.ensures _ c.in_ok-s.was _ c.later_lines.ensures
