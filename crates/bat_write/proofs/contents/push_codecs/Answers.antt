use borrow.Author.Rules.{rules}
use Rattle.bat.proofs.CountLaws.{frame_shorter, ok_is}
use Rattle.bat_write.proofs.CodecLaws.{listing, contents_small, codecs_more}
use Rattle.bat_write.proofs.contents.push_codecs.Goals as goal

pub loop-f-init : goal.loop-f-init
loop-f-init c = (search rules, λ r g p. p)

pub push_element-k-requires : goal.push_element-k-requires
push_element-k-requires c = search (contents_small, ok_is, rules)

pub loop-f-smaller : goal.loop-f-smaller
loop-f-smaller c = search (frame_shorter, ok_is, rules)

pub loop-f-preserved : goal.loop-f-preserved
loop-f-preserved c = (search rules, search (codecs_more, ok_is, rules))

pub returns-in_default : goal.returns-in_default
returns-in_default c = search (listing, rules)

pub returns-in_default-2 : goal.returns-in_default-2
returns-in_default-2 c = search (listing, rules)
