-- `lend::lend` meets its contract. The code makes the definition's tests.
-- Assumes nothing.
use borrow.Author.Rules.{rules}
use Rattle.trace_read.proofs.LendLaws.{lends}
use Rattle.trace_read.proofs.lend.lend.Goals as goal
use Rattle.trace_read.proofs.lend.lend.Goals.{else-detailed-via-then-detailed+else-starts, else-detailed-via-else-detailed}

pub returns-then-starts : goal.returns-then-starts
returns-then-starts c = search (lends, rules)

pub returns : goal.returns
returns c =
    elim c.else-detailed.branch [
      | else-detailed-via-then-detailed+else-starts w ↦ search (lends, rules)
      | else-detailed-via-else-detailed w ↦ search (lends, rules)
    ]
