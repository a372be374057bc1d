use borrow.Author.Rules.{rules}
use Rattle.address.proofs.GapLaws.{pairs_read}
use Rattle.address.proofs.ipv6.find_gap.Goals as goal

pub returns-then-both_colons : goal.returns-then-both_colons
returns-then-both_colons c = search (pairs_read, rules)

pub loop-i-preserved : goal.loop-i-preserved
loop-i-preserved c = search (pairs_read, rules)

pub returns : goal.returns
returns c = search (pairs_read, rules)
