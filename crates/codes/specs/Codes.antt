-- The codes of Q.765.5 identifiers 1, 13 and 14 that have a meaning, by their ranges.
use Rattle.std.specs.Prelude.{ℕ, Bool, ◌&&◌, ◌||◌, leb}

-- action (identifier 1): 0 to 24
unfoldable pub is_action : ℕ → Bool
is_action k = leb k 24

-- redirection indicator (identifier 13): 0 to 11
unfoldable pub is_indicator : ℕ → Bool
is_indicator k = leb k 11

-- signal type (identifier 14): 0 to 15 or 64 to 83
unfoldable pub is_signal : ℕ → Bool
is_signal k = leb k 15 || (leb 64 k && leb k 83)
