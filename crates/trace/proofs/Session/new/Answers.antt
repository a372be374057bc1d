-- `Session::new` meets its contract. It is the start.
-- Assumes nothing.
use Rattle.trace.proofs.ConfiguringLaws.{begins_is}
use Rattle.trace.proofs.Session.new.Goals as goal

pub returns : goal.returns
returns c = begins_is
