-- `examine_first` meets its contract: each answer of the framing is one case of `examine`.
-- Assumes nothing.
use Rattle.bat_read.proofs.FindingLaws.{examined, whole_is}
use Rattle.std.proofs.lemmas.Result.{err_from_is_err_and}
use borrow.Author.Rules.{rules}
use Rattle.bat_read.proofs.examine_first.Goals as goal

pub judge_frame-requires : goal.judge_frame-requires
judge_frame-requires c = search (whole_is, c.in_ok-f.was, rules)

pub returns-in_err-f : goal.returns-in_err-f
returns-in_err-f c =
    let p = err_from_is_err_and c.from_residual.result c.from_residual.ensures.1 in
    rw p.1 (search (examined, c.in_err-f.was, rules))

pub returns-in_default : goal.returns-in_default
returns-in_default c = search (examined, c.in_ok-f.was, rules)

pub returns : goal.returns
returns c = search (examined, c.in_ok-f.was, rules)
