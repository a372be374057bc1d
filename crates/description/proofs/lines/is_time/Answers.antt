-- `lines::is_time` meets its contract: two tokens are cut and tested.
-- Assumes nothing.
use Rattle.description.proofs.LineLaws.{time_is}
use Rattle.description.proofs.lines.is_time.Goals as goal

pub returns-then-digit_run : goal.returns-then-digit_run
returns-then-digit_run c =
    time_is _ _ c.cut.ensures.tokens _ c.in-Some.is _ c.text.ensures _ c.digit_run.ensures c.if-digit_run.true _ c.text-then-digit_run.ensures _ c.digit_run-then-digit_run.ensures
