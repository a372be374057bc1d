-- `words::starts` meets its contract: `starts_with` compares the front octet by octet.
-- Assumes nothing.
use mathlib.Core.Path.{◌∙◌}
use Rattle.octets.proofs.WordLaws.{begins_octets}
use Rattle.octets.proofs.words.starts.Goals as goal

pub returns : goal.returns
returns c = c.starts_with.ensures.value ∙ begins_octets c.args.w.now c.args.s.now
