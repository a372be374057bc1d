-- `choose` meets its contract: two strings that are lists are matched by the codecs in both.
-- Assumes nothing.
use borrow.Author.Rules.{rules}
use Rattle.std.proofs.lemmas.Result.{err_from_is_err_and}
use Rattle.bat_match.proofs.ListLaws.{choices}
use Rattle.bat_match.proofs.choose.Goals as goal

pub returns-in_err-l : goal.returns-in_err-l
returns-in_err-l c =
    let p = err_from_is_err_and c.from_residual.result c.from_residual.ensures.1 in
    rw (p.1, p.2) (search (choices, c.in_err-l.was, rules))

pub returns : goal.returns
returns c = search (choices, c.in_ok-l.was, rules)
