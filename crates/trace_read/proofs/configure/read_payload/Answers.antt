-- `configure::read_payload` meets its contract. The code makes the definition's tests.
-- Assumes nothing.
use borrow.Author.Rules.{rules}
use Rattle.trace_read.proofs.CodecLaws.{payloads}
use Rattle.trace_read.proofs.configure.read_payload.Goals as goal

pub returns-in_err-n : goal.returns-in_err-n
returns-in_err-n c = search (payloads, rules)

pub returns-then-n-gt95 : goal.returns-then-n-gt95
returns-then-n-gt95 c = search (payloads, c.in_ok-n.was, rules)

pub returns : goal.returns
returns c = search (payloads, c.in_ok-n.was, rules)
