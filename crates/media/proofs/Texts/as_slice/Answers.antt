-- `Texts::as_slice` meets its contract: the array has three spans, so a count over three takes them all.
-- Assumes nothing.
use mathlib.Core.Path.{refl}
use lib.ListN.{length-take}
use native.Mathlib.Omega.{arith}
use Rattle.media.specs.Meaning.{spans_of}
use Rattle.media.proofs.TextsLaws.{spans_all}
use Rattle.media.proofs.Texts.as_slice.Goals as goal

pub returns-then-n-lt3 : goal.returns-then-n-lt3
unfolding spans_of
returns-then-n-lt3 c = record { places = refl; few = omega (arith, length-take c.args.self.now.count c.args.self.now.spans) }

pub returns : goal.returns
returns c = record { places = spans_all _ (omega arith); few = omega arith }
