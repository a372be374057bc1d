-- What it means that a written element is read back.
use Rattle.std.specs.Prelude.{ℕ, ◌≡◌, List, ◌++◌}
use Rattle.bat.specs.Framing.{Element, whole, front, first}
use Rattle.bat.specs.Values.{Value, decoded, meant, decoding}
use Rattle.bat.specs.Writing.{identifier_of, value_text}

-- The octets of a value's element, followed by rest, are framed as one element with exactly these octets. It has the
-- value's identifier and the given compatibility, and is decoded as the value.
pub record ReadBack (c : ℕ) (v : Value) (rest : List ℕ) : Type 0 where
  pub element : Element
  pub fronts : front (value_text c v ++ rest) ≡ first element rest
  pub covers : whole element ≡ value_text c v
  pub identifies : element.identifier ≡ identifier_of v
  pub means : meant element.compatibility ≡ c
  pub decodes : decoding element.identifier element.contents ≡ decoded v
