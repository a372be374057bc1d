-- `hex::push_pair` meets its contract. The low digit is appended after the high one.
-- Assumes nothing.
use borrow.Author.Rules.{rules}
use Rattle.octets.proofs.HexLaws.{hex_pair}
use Rattle.octets.proofs.hex.push_pair.Goals as goal

pub returns : goal.returns
returns c = record { lent = search rules; appends = search (hex_pair, rules) }
