-- `write::push_gap` meets its contract. The groups are appended after "::".
-- Assumes nothing.
use borrow.Author.Rules.{rules}
use Rattle.address.proofs.WriteLaws.{gap_then}
use Rattle.address.proofs.write.push_gap.Goals as goal

pub returns : goal.returns
returns c = record { lent = search rules; appends = search (gap_then, rules) }
