-- `selection::select_codecs` meets its contract. Whatever goes on from the flags so far with those of the codecs that are left ends as the
-- flags of all codecs; each turn adds one.
-- Assumes nothing.
use Rattle.bat.specs.Elements.{left}
use Rattle.bat_match.specs.Private.{codecs_at}
use Rattle.bat_match.proofs.SelectionLaws.{Flagging}
use Rattle.bat_match.proofs.selection.select_codecs.Given as goal

abbrev pub invariant-loop-c : goal.invariant-loop-c
invariant-loop-c l = Flagging l.leading.string.now l.leading.from (codecs_at l.other.string.now l.other.from) l.initial.flags (left l.c-iterator) l.flags l.n
