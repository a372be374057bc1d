use Rattle.bat.proofs.CountLaws.{frame_shorter, ok_is}
use Rattle.bat_write.proofs.CodecLaws.{contents_small}
use Rattle.bat_write.proofs.SelectedLaws.{push_start, left, push_more, push_done}
use borrow.Author.Rules.{rules}
use Rattle.bat_write.proofs.selected.push_selected.Goals as goal

pub loop-f-init : goal.loop-f-init
loop-f-init c = (search rules, search (push_start, rules))

pub push_if-k-requires : goal.push_if-k-requires
push_if-k-requires c = search (contents_small, ok_is, rules)

pub loop-f-smaller : goal.loop-f-smaller
loop-f-smaller c = search (frame_shorter, ok_is, rules)

pub loop-f-preserved : goal.loop-f-preserved
loop-f-preserved c = (search rules, search (push_more, ok_is, rules))

pub returns-in_default : goal.returns-in_default
returns-in_default c = search (left, push_done, rules)

pub returns-in_default-2 : goal.returns-in_default-2
returns-in_default-2 c = search (left, push_done, rules)
