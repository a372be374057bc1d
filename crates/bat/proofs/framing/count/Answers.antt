-- `framing::count` meets its contract: the tests follow the order of numbers 1, 2 and 3, and a law for each says what `cut` then is.
-- Assumes nothing.
use Rattle.bat.proofs.CountLaws.{cuts}
use Rattle.std.proofs.lemmas.Result.{err_from_is_err_and}
use borrow.Author.Rules.{rules}
use Rattle.bat.proofs.framing.count.Goals as goal

pub returns-then-data-gt-MOST_OCTETS : goal.returns-then-data-gt-MOST_OCTETS
returns-then-data-gt-MOST_OCTETS c = search (cuts, rules)

pub returns-in_err-n : goal.returns-in_err-n
returns-in_err-n c =
    let p = err_from_is_err_and c.from_residual.result c.from_residual.ensures.1 in
    rw (p.1, p.2) (search (cuts, c.in_err-n.was, rules))

pub returns-then-entries-n : goal.returns-then-entries-n
returns-then-entries-n c = search (cuts, c.in_ok-n.was, rules)

pub returns : goal.returns
returns c = search (cuts, c.in_ok-n.was, rules)
