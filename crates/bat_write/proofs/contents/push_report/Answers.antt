-- `contents::push_report` meets its contract. Octets in threes that are each below 256 are the text of the diagnostics that they stand for.
-- Assumes nothing.
use borrow.Author.Rules.{rules}
use Rattle.bat_write.proofs.DiagnosticLaws.{report_then}
use Rattle.bat_write.proofs.contents.push_report.Goals as goal

pub returns : goal.returns
returns c = search (report_then, rules)
