-- `framing::read_size` meets its contract: each way that the code leaves is one case of `length_of`.
-- Assumes nothing.
use Rattle.bat.proofs.FrameLaws.{sizes}
use borrow.Author.Rules.{rules}
use Rattle.bat.proofs.framing.read_size.Goals as goal

pub returns-then-s-lt1 : goal.returns-then-s-lt1
returns-then-s-lt1 c = search (sizes, rules)

pub returns-then-a-ge128 : goal.returns-then-a-ge128
returns-then-a-ge128 c = search (sizes, rules)

pub returns-then-s-lt2 : goal.returns-then-s-lt2
returns-then-s-lt2 c = search (sizes, rules)

pub returns-then-b-lt128 : goal.returns-then-b-lt128
returns-then-b-lt128 c = search (sizes, rules)

pub returns : goal.returns
returns c = search (sizes, rules)
