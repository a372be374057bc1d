-- A reading of a message as one number, for C: the number that refuses it, 256 for a version and type alone, or 1000 plus the
-- port.
use Rattle.std.specs.Prelude.{ℕ, ◌+◌}
use Rattle.octets.specs.Refusals.{refusal_number}
use Rattle.ipbcp.specs.Reading.{Reading, refused, typed, described}

unfoldable pub reading_for_c : Reading → ℕ
reading_for_c (refused e) = refusal_number e
reading_for_c (typed version kind) = 256
reading_for_c (described kind address stream) = 1000 + stream.port
