-- `constructors::typed` meets its contract: each way that the code leaves is one case of `signal_by`.
-- Assumes nothing.
use Rattle.bat_read.proofs.ConstructorLaws.{typed_no, typed_yes}
use borrow.Author.Rules.{rules}
use Rattle.bat_read.proofs.constructors.typed.Goals as goal

pub returns-then-is_type : goal.returns-then-is_type
returns-then-is_type c = search (typed_yes, c.timed.ensures, rules)

pub returns : goal.returns
returns c = search (typed_no, rules)
