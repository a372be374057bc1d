-- Private: used only by private functions of this crate. They find the end of a line by the first octet that
-- can't be part of one.
use Rattle.std.specs.Prelude.{ℕ, ◌+◌, ◌≤◌, ◌≡◌, List, [], ◌∷◌, Bool, ◌&&◌, cond, length, drop, eqb, leb}
use Rattle.octets.specs.Text.{char}
use Rattle.sdp.specs.Lines.{is_plain}

-- what of s comes before its first 0, CR or LF
unfoldable pub plain_part : List ℕ → List ℕ
plain_part [] = []
plain_part (b ∷ bs) = cond (is_plain b) (b ∷ plain_part bs) []

-- n is i or later, and the octets between are plain
pub record PlainTo (m : List ℕ) (i n : ℕ) : Type 0 where
  pub count : n + length (plain_part (drop n m)) ≡ i + length (plain_part (drop i m))
  pub low : i ≤ n

-- r is where the plain part from i on ends; the bound follows, and is here for callers
pub record Ends (m : List ℕ) (i r : ℕ) : Type 0 where
  pub is : r ≡ i + length (plain_part (drop i m))
  pub low : i ≤ r

-- a line starts with the octets a and e: a lower-case letter and `=`
abbrev pub is_start : ℕ → ℕ → Bool
is_start a e = leb (char "a") a && (leb a (char "z") && eqb e (char "="))
