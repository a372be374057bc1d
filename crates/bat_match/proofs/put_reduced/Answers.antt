-- `put_reduced` meets its contract: the flags name the codecs of the reduced list, and the writer's answer is that of E1.
-- Assumes nothing.
use borrow.Author.Rules.{rules}
use Rattle.octets.proofs.PutsLaws.{appended_inside}
use Rattle.bat_match.proofs.WriteLaws.{writes_found}
use Rattle.bat_match.proofs.put_reduced.Goals as goal

pub slice_bounds-write_selected-end : goal.slice_bounds-write_selected-end
slice_bounds-write_selected-end c = search (appended_inside, rules)

pub returns : goal.returns
returns c = search (writes_found, rules)
