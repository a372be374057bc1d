-- `words::equals` meets its contract: `==` compares two texts octet by octet.
-- Assumes nothing.
use mathlib.Core.Path.{◌∙◌}
use Rattle.octets.proofs.WordLaws.{same_octets}
use Rattle.octets.proofs.words.equals.Goals as goal

pub returns : goal.returns
returns c = c.eq.ensures ∙ same_octets c.args.w.now c.args.s.now
