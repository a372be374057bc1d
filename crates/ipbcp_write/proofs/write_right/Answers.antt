-- `write_right` meets its contract: the scratch holds the message, or shows that it is too long.
-- Assumes nothing.
use Rattle.octets.proofs.PutsLaws.{appended_inside}
use borrow.Author.Rules.{rules}
use mathlib.Core.Path.{ap}
use lib.ListN.{length}
use Rattle.ipbcp_write.proofs.WriteLaws.{scratch_long, scratch_short}
use Rattle.ipbcp_write.proofs.write_right.Goals as goal

pub returns-then-n-gt-MOST_WRITTEN : goal.returns-then-n-gt-MOST_WRITTEN
returns-then-n-gt-MOST_WRITTEN c = scratch_long _ _ _ _ _ (rw c.new-written.ensures.nothing at c.push_message.ensures.appends) (ap length c.new-written.ensures.holds) c.if-n-gt-MOST_WRITTEN.true

pub slice_bounds-put_front-end : goal.slice_bounds-put_front-end
slice_bounds-put_front-end c = search (appended_inside, rules)

pub returns : goal.returns
returns c =
    scratch_short _ _ _ _ _ (rw c.new-written.ensures.nothing at c.push_message.ensures.appends) (ap length c.new-written.ensures.holds)
    c.if-n-gt-MOST_WRITTEN.false _ (search rules) _ _ c.put_front.ensures
