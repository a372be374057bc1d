-- There are no more entries to store than the table has room for, and when all are stored the table is what document 01 says.
use Prim.Native.Nat.{◌<◌}
use mathlib.Core.Path.{◌≡◌, ◌∙◌}
use lib.ListN.{length}
use native.Mathlib.Omega.{arith}
use Rattle.bat.specs.Framing.{cut}
use Rattle.bat.specs.FramingMeaning.{count_of}
use Rattle.bat_table.proofs.Room.{place_fits}
use Rattle.bat_table.proofs.FillLaws.{stored_by, length_fill, stored_fits, filled}
use Rattle.bat_table.proofs.store_elements.Goals as goal

pub bounds-table-i : goal.bounds-table-i
bounds-table-i c =
    let stored : c.unwrap_or-stored.result ≡ stored_by (count_of (cut (length c.args.table.now) c.args.data.now)) = c.unwrap_or-stored.ensures ∙ rw c.count-answer.ensures in
    rw (c.loop-i.invariant.0, length_fill c.args.data.now c.args.table.now c.loop-i.i) (omega (arith, stored, stored_fits c.args.data.now (length c.args.table.now)))

pub offset_bounds-table-i : goal.offset_bounds-table-i
offset_bounds-table-i c =
    let stored : c.unwrap_or-stored.result ≡ stored_by (count_of (cut (length c.args.table.now) c.args.data.now)) = c.unwrap_or-stored.ensures ∙ rw c.count-answer.ensures in
    let room : c.loop-i.i < length c.args.table.now = omega (arith, stored, stored_fits c.args.data.now (length c.args.table.now)) in
    record { fits = place_fits c.well_formed.1.0 room }

pub returns : goal.returns
returns c =
    let stored : c.unwrap_or-stored.result ≡ stored_by (count_of (cut (length c.args.table.now) c.args.data.now)) = c.unwrap_or-stored.ensures ∙ rw c.count-answer.ensures in
    let all : c.loop-i.i ≡ stored_by (count_of (cut (length c.args.table.now) c.args.data.now)) = omega arith in
    (c.count-answer.ensures, c.loop-i.invariant.0 ∙ rw all (filled c.args.data.now c.args.table.now))
