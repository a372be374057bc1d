-- The tokens of a text, separated by one blank each (document 01, "Message, version 1"), and what comes after its first blank.
use Rattle.std.specs.Prelude.{ℕ, ◌+◌, List, [], ◌∷◌, Bool, true, ◌&&◌, cond, length, drop, eqb, ltb}
use Rattle.std.proofs.Math.Option.{Option, some}
use Rattle.octets.specs.Chain.{when}
use Rattle.octets.specs.Split.{before, split_on, part_at}
use Rattle.octets.specs.Text.{blank}

-- the k-th token of s, from 0
abbrev pub token : ℕ → List ℕ → List ℕ
token k s = part_at k (split_on blank s)

unfoldable pub none_empty : List (List ℕ) → Bool
none_empty [] = true
none_empty (p ∷ ps) = ltb 0 (length p) && none_empty ps

-- how many tokens s has; 0 if one would be empty, as between two blanks or at an end
unfoldable pub token_count : List ℕ → ℕ
token_count s = cond (none_empty (split_on blank s)) (length (split_on blank s)) 0

-- what comes after the first blank of s; empty if there is none
unfoldable pub after_blank : List ℕ → List ℕ
after_blank s = drop (length (before blank s) + 1) s

-- what comes after the first token of s and its blank; empty if that token is empty or the last
unfoldable pub after_token : List ℕ → List ℕ
after_token s = cond (ltb 0 (length (before blank s))) (after_blank s) []

-- the tokens of s, if there are n
unfoldable pub tokens_of : ℕ → List ℕ → Option (List (List ℕ))
tokens_of n s = when (eqb (token_count s) n) (some (split_on blank s))
