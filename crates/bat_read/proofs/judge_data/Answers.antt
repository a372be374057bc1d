-- `judge_data` meets its contract: data that is taken has elements, whose gravest outcome is that of the data.
-- Assumes nothing.
use Rattle.bat_read.proofs.OutcomeLaws.{telling}
use Rattle.std.proofs.lemmas.Result.{err_from_is_err_and}
use borrow.Author.Rules.{rules}
use Rattle.bat_read.proofs.judge_data.Goals as goal

pub returns-in_err-count : goal.returns-in_err-count
returns-in_err-count c =
    let p = err_from_is_err_and c.from_residual.result c.from_residual.ensures.1 in
    rw (p.1, p.2) (search (telling, c.in_err-count.was, rules))

pub returns : goal.returns
returns c = search (telling, c.in_ok-count.was, rules)
