use borrow.Author.Rules.{rules}
use Rattle.octets.proofs.HexLaws.{hexing}
use Rattle.octets.proofs.hex.push_hex.Goals as goal

pub loop-b-init : goal.loop-b-init
loop-b-init c = record { lent = search rules; appends = search (hexing, rules) }

pub loop-b-preserved : goal.loop-b-preserved
loop-b-preserved c = record { lent = search rules; appends = search (hexing, rules) }

pub returns : goal.returns
returns c = record { lent = search rules; appends = search (hexing, rules) }
