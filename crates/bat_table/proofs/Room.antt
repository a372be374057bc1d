-- An entry has 24 octets, and its place in the caller's table fits a pointer's offset.
-- Assumes nothing.
use Prim.Native.Nat.{ℕ, ◌*◌, ◌^◌, ◌<◌}
use native.Mathlib.Omega.{arith}
use denote.Slice.{Room}
use Rattle.bat_table.specs.contracts.Entry as T

pub place_fits : {i n : ℕ} → Room T.the_row n → i < n → i * 24 < 2 ^ 64
place_fits room l = omega (arith, room.1)
