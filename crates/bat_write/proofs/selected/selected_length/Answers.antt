use Rattle.bat.proofs.CountLaws.{frame_shorter, ok_is}
use Rattle.bat_write.proofs.CodecLaws.{contents_small}
use Rattle.bat_write.proofs.SelectedLaws.{left, length_inside, length_fits, length_more, length_done}
use borrow.Author.Rules.{rules}
use Rattle.bat_write.proofs.selected.selected_length.Goals as goal

pub loop-f-init : goal.loop-f-init
loop-f-init c = (search rules, search rules)

pub length_if-n-requires : goal.length_if-n-requires
length_if-n-requires c = search (contents_small, ok_is, rules)

pub overflow_add-n : goal.overflow_add-n
overflow_add-n c = search (length_fits, ok_is, rules)

pub loop-f-smaller : goal.loop-f-smaller
loop-f-smaller c = search (frame_shorter, ok_is, rules)

pub loop-f-preserved : goal.loop-f-preserved
loop-f-preserved c = (search (length_inside, ok_is, rules), search (length_more, ok_is, rules))

pub returns-in_default : goal.returns-in_default
returns-in_default c = search (left, length_done, rules)

pub returns-in_default-2 : goal.returns-in_default-2
returns-in_default-2 c = search (left, length_done, rules)
