-- `ranges::are_codecs` meets its contract. Octets that are not empty and have no offence are one codec or more, each right.
-- Assumes nothing.
use borrow.Author.Rules.{rules}
use Rattle.bat_write.proofs.CodecLaws.{codecs_none, codecs_tested}
use Rattle.bat_write.proofs.ranges.are_codecs.Goals as goal

pub returns-then-s-ge1 : goal.returns-then-s-ge1
returns-then-s-ge1 c = search (codecs_tested, rules)

pub returns-else-s-ge1 : goal.returns-else-s-ge1
returns-else-s-ge1 c = search (codecs_none, rules)
