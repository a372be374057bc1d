-- `codecs::blank` meets its contract: each field is written out.
-- Assumes nothing.
use mathlib.Core.Path.{refl}
use Rattle.configuration.proofs.codecs.blank.Goals as goal

pub returns : goal.returns
returns c = refl
