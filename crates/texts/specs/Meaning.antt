-- What the places of tokens stand for: their texts. And the places of texts that stand one after the other.
use Rattle.std.specs.Prelude.{ℕ, ◌+◌, List, [], ◌∷◌, map, length, Some, None}
use Rattle.std.specs.Prelude as code
use Rattle.std.proofs.Math.Option.{Option, none, some}
use Rattle.octets.specs.declared.Span.{Span}
use Rattle.octets.specs.Spans.{text_of}

-- the texts of s at these places, if there are any
unfoldable pub cut_in : List ℕ → code.Option (List Span) → Option (List (List ℕ))
cut_in s (Some xs) = some (map (text_of s) xs)
cut_in s None = none

-- the places of these texts, the first of which starts at a place, where one octet separates each from the next
unfoldable pub places_from : ℕ → List (List ℕ) → List Span
places_from at [] = []
places_from at (p ∷ ps) = record { at = at; len = length p } ∷ places_from (at + length p + 1) ps
