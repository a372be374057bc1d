-- `write_inside` meets its contract. The scratch holds the contents, or enough of them to show that the element is too long.
-- Assumes nothing.
use borrow.Author.Rules.{rules}
use Rattle.octets.proofs.Pick.{flags}
use Rattle.octets.proofs.PutsLaws.{appended_inside}
use Rattle.bat_write.proofs.WriteLaws.{writes_none, writes}
use Rattle.bat_write.proofs.write_inside.Goals as goal

pub push_contents-n-requires : goal.push_contents-n-requires
push_contents-n-requires c = search (flags, rules)

pub slice_bounds-put_element-end : goal.slice_bounds-put_element-end
slice_bounds-put_element-end c = search (appended_inside, rules)

pub returns-then-in_range : goal.returns-then-in_range
returns-then-in_range c = search (writes, rules)

pub returns : goal.returns
returns c = search (writes_none, rules)
