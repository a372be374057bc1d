-- `ranges::is_codec` meets its contract. The test of the text of the span is a test of what the codec stands for.
-- Assumes nothing.
use Rattle.bat_write.proofs.ranges.is_codec.Goals as goal

pub returns : goal.returns
returns c = cc
