-- `ranges::are_diagnostics` meets its contract. Octets are diagnostics exactly if they come in threes.
-- Assumes nothing.
use borrow.Author.Rules.{rules}
use Rattle.bat_write.proofs.DiagnosticLaws.{threes}
use Rattle.bat_write.proofs.ranges.are_diagnostics.Goals as goal

pub returns : goal.returns
returns c = search (threes, rules)
