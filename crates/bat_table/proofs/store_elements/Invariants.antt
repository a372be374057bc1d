-- `store_elements` meets its contract: where i entries are stored, the table is `fill` of i, and the next element is at `spot` of i.
-- Assumes nothing.
use mathlib.Core.Path.{◌≡◌}
use Rattle.bat_table.proofs.FillLaws.{spot, fill}
use Rattle.bat_table.proofs.store_elements.Given as goal

abbrev pub invariant-loop-i : goal.invariant-loop-i
invariant-loop-i l = (l.table ≡ fill l.data l.initial.table l.i) × (l.at ≡ spot l.data l.i)
