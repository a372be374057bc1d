-- `check::check` meets its contract. One test that fails refuses the configuration; if all hold it is valid.
-- Assumes nothing.
use borrow.Author.Rules.{rules}
use Rattle.octets.proofs.Pick.{flags}
use Rattle.configuration.proofs.CheckLaws.{checks}
use Rattle.configuration.proofs.check.check.Goals as goal
use Rattle.configuration.proofs.check.check.Goals.{else-right_general-via-then-right_general+else-right_codecs, else-right_general-via-else-right_general}

pub returns-then-right_codecs : goal.returns-then-right_codecs
returns-then-right_codecs c = search (checks, flags, rules)

pub returns : goal.returns
returns c =
    elim c.else-right_general.branch [
      | else-right_general-via-then-right_general+else-right_codecs w ↦ search (checks, flags, rules)
      | else-right_general-via-else-right_general w ↦ search (checks, flags, rules)
    ]
