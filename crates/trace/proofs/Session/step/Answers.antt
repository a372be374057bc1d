-- `Session::step` meets its contract. What the lines before have left says which kind of line it is.
-- Assumes nothing.
use borrow.Author.Rules.{rules}
use Rattle.trace.proofs.ConfiguringLaws.{step_start, step_configuring, step_running, step_stopped}
use Rattle.trace.proofs.Session.step.Goals as goal

pub returns-in-Start : goal.returns-in-Start
returns-in-Start c = search (step_start, rules)

pub returns-in-Configuring : goal.returns-in-Configuring
returns-in-Configuring c = search (step_configuring, rules)

pub returns-in-Running : goal.returns-in-Running
returns-in-Running c = search (step_running, rules)

pub returns-in-Stopped : goal.returns-in-Stopped
returns-in-Stopped c = search (step_stopped, rules)
