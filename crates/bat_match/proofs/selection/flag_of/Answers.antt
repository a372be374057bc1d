-- `selection::flag_of` meets its contract, for each case of its two searches.
-- Assumes nothing.
use borrow.Author.Rules.{rules}
use Rattle.bat_match.proofs.SelectionLaws.{selecting}
use Rattle.bat_match.proofs.selection.flag_of.Goals as goal

pub returns-then-has_codec_before : goal.returns-then-has_codec_before
returns-then-has_codec_before c = search (selecting, rules)

pub returns-then-has_codec : goal.returns-then-has_codec
returns-then-has_codec c = search (selecting, rules)

pub returns : goal.returns
returns c = search (selecting, rules)
