-- `ranges::are_plain` meets its contract: the texts that were tested may be part of lines.
-- Assumes nothing.
use mathlib.Core.Path.{◌≡◌}
use mathlib.Core.Bool.{true}
use mathlib.Core.List.{map}
use lib.ListN.{take}
use Rattle.octets.specs.Spans.{text_of}
use Rattle.ipbcp.specs.Writing.{all_texts_plain}
use Rattle.ipbcp_write.proofs.ranges.are_plain.Given as goal

abbrev pub invariant-loop-sp : goal.invariant-loop-sp
invariant-loop-sp l = all_texts_plain (map (text_of l.source) (take l.sp-index l.spans)) ≡ true
