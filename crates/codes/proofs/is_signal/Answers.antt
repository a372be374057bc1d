-- `codes::is_signal` meets its contract: the table computes to the rule's values at 256 codes, and `at` reads one of them.
-- Assumes nothing.
use mathlib.Core.Bool.{false}
use borrow.Author.Rules.{rules}
use Rattle.codes.specs.Codes.{is_signal}
use Rattle.codes.proofs.TableLaws.{at}
use Rattle.codes.proofs.is_signal.Goals as goal

pub returns : goal.returns
unfolding is_signal
returns c = at is_signal 256 c.args.code false (search rules)
