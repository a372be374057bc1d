-- `judging::judge` meets its contract: it is put together from the outcome, the notice and the diagnostic.
-- Assumes nothing.
use Rattle.bat.specs.JudgingMeaning.{judgement_in}
use Rattle.bat.specs.Judging.{judgement}
use Rattle.bat.proofs.judging.judge.Goals as goal

pub returns : goal.returns
unfolding judgement_in judgement
returns c = cc
