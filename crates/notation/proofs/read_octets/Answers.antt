use borrow.Author.Rules.{rules}
use Rattle.notation.proofs.OctetsLaws.{octets_turn, octets_turn_f, readings}
use Rattle.notation.proofs.read_octets.Goals as goal

pub returns-in_default : goal.returns-in_default
returns-in_default c = search (readings, rules)

pub loop-j-preserved : goal.loop-j-preserved
loop-j-preserved c = (search (octets_turn, rules), search (octets_turn_f, rules), search rules)

pub returns-then-n-most : goal.returns-then-n-most
returns-then-n-most c = search (readings, rules)

pub returns-else-n-most : goal.returns-else-n-most
returns-else-n-most c = search (readings, rules)
