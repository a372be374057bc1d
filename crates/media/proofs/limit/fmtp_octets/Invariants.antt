-- `limit::fmtp_octets` meets its contract: the count of the lines so far, capped.
-- Assumes nothing.
use mathlib.Core.Path.{◌≡◌}
use mathlib.Core.List.{map}
use lib.ListN.{take}
use Rattle.octets.specs.Spans.{text_of}
use Rattle.media.specs.Stream.{fmtp_text, octets_together}
use Rattle.media.specs.Private.{capped}
use Rattle.media.proofs.limit.fmtp_octets.Given as goal

abbrev pub invariant-loop-sp : goal.invariant-loop-sp
invariant-loop-sp l = l.n ≡ capped (octets_together (map fmtp_text (map (text_of l.m) (take l.sp-index l.sp-items))))
