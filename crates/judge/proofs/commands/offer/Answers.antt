-- `commands::offer` meets its contract: the name has room after the two words, which are 12 octets.
-- Assumes nothing.
use borrow.Author.Rules.{rules}
use Rattle.judge.proofs.CommandLaws.{appends_low, offer_is}
use Rattle.judge.proofs.commands.offer.Goals as goal

pub overflow_sub-name : goal.overflow_sub-name
overflow_sub-name c = search (appends_low, rules)

pub returns : goal.returns
returns c =
    offer_is c.args.k (search rules) c.args.port c.args.payload c.args.ptime _ _ _ _ _ _ _ c.bare.result c.bare.ensures c.new-written.ensures.holds c.new-written.ensures.nothing
    c.push.ensures.appends c.push_name.ensures.appends (search rules)
