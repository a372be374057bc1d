-- `search::first_common` meets its contract. The leading list's codecs passed over are not in the other list, so those that are left decide; and
-- at each turn of the inner walk the other list's codecs passed over are other codecs, so the rest decide.
-- Assumes nothing.
use mathlib.Core.Path.{◌≡◌}
use Rattle.std.specs.Prelude.{Err}
use Rattle.octets.specs.declared.Refusal.TheVariants.{NoCommonCodec}
use Rattle.bat.specs.Elements.{left}
use Rattle.bat_match.specs.Private.{codecs_at}
use Rattle.bat_match.proofs.PlacedLaws.{Looking, Seeking}
use Rattle.bat_match.proofs.search.first_common.Given as goal

abbrev pub invariant-loop-d : goal.invariant-loop-d
invariant-loop-d l = Seeking l.contents l.fn.other.string.now l.fn.other.from (left l.d-iterator) × (l.found ≡ Err NoCommonCodec)

abbrev pub invariant-search : goal.invariant-search
invariant-search l = Looking l.fn.leading.string.now l.fn.leading.from (codecs_at l.other.string.now l.other.from) (left l.c-iterator) × (l.found ≡ Err NoCommonCodec)
