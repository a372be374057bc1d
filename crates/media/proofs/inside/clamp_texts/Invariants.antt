-- `inside::clamp_texts` meets its contract: the spans say the same, and those that were cut lie inside.
-- Assumes nothing.
use mathlib.Core.Path.{◌≡◌}
use mathlib.Core.Bool.{true}
use mathlib.Core.List.{map}
use lib.ListN.{take}
use Rattle.octets.specs.Spans.{text_of}
use Rattle.media.specs.Meaning.{all_in}
use Rattle.media.proofs.inside.clamp_texts.Given as goal

abbrev pub invariant-loop-sp : goal.invariant-loop-sp
invariant-loop-sp l = record {
  same : map (text_of l.m) l.sp-items ≡ map (text_of l.m) l.fn.x.spans;
  inside : all_in l.m (take l.sp-index l.sp-items) ≡ true;
}
