-- `large` meets its contract. The code makes the definition's tests.
-- Assumes nothing.
use borrow.Author.Rules.{rules}
use Rattle.octets.proofs.Pick.{flags}
use Rattle.notation.proofs.Laws.{larges}
use Rattle.notation.proofs.large.Goals as goal
use Rattle.notation.proofs.large.Goals.{then-t-lt2-via-then-t-lt2, then-t-lt2-via-else-t-lt2+then-t-eq48, then-t-lt2-via-else-t-lt2+else-t-eq48+then-not-digit_run}

pub returns-then-t-lt2 : goal.returns-then-t-lt2
returns-then-t-lt2 c =
    elim c.then-t-lt2.branch [
      | then-t-lt2-via-then-t-lt2 w ↦ search (larges, flags, rules)
      | then-t-lt2-via-else-t-lt2+then-t-eq48 w ↦ search (larges, flags, rules)
      | then-t-lt2-via-else-t-lt2+else-t-eq48+then-not-digit_run w ↦ search (larges, flags, rules)
    ]

pub returns : goal.returns
returns c = search (larges, flags, rules)
