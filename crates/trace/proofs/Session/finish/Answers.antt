-- `Session::finish` meets its contract. Only a configuration that no event follows is judged at the end.
-- Assumes nothing.
use Rattle.trace.proofs.ConfiguringLaws.{end_start, end_configuring, end_running, end_stopped}
use Rattle.trace.proofs.Session.finish.Goals as goal

pub returns-in-Start : goal.returns-in-Start
returns-in-Start c = end_start _ _ _ c.in-Start.is c.push_refused_line.ensures

pub returns-in-Configuring : goal.returns-in-Configuring
returns-in-Configuring c = end_configuring _ _ _ _ c.in-Configuring.is c.close.ensures

pub returns-in-Running : goal.returns-in-Running
returns-in-Running c = end_running _ _ _ _ c.in-Running.is

pub returns-in-Stopped : goal.returns-in-Stopped
returns-in-Stopped c = end_stopped _ _ c.in-Stopped.is
