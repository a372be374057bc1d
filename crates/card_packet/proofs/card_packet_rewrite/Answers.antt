-- `card_packet_rewrite` meets its contract: by the three answers of the reader.
-- Assumes nothing.
use Rattle.card_packet.proofs.AgainLaws.{rewrites, rewrites_typed, rewrites_described}
use borrow.Author.Rules.{rules}
use Rattle.card_packet.proofs.card_packet_rewrite.Goals as goal

pub returns-in-Err : goal.returns-in-Err
returns-in-Err c = search (rewrites, rules)

pub returns-in-Ok-Typed : goal.returns-in-Ok-Typed
returns-in-Ok-Typed c = rewrites_typed _ _ _ c.read.ensures _ c.in-Ok-Typed.field-0-0 c.in-Ok-Typed.field-0-1 (cc)

pub returns-in-Ok-Described : goal.returns-in-Ok-Described
returns-in-Ok-Described c =
    rewrites_described _ _ _ c.read.ensures _ _ c.in-Ok-Described.description (cc) _ c.body_of-body.ensures _ _ c.write_packet.ensures _ c.code-in-Ok-Described.ensures
