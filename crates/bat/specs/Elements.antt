-- The elements of octets with their places, and what the iterator over them has left.
use Rattle.std.specs.Prelude.{ℕ, List, [], ◌∷◌, length}
use Rattle.bat.specs.declared.elements.Located.{Located}
use Rattle.bat.specs.declared.elements.Elements.{Elements}
use Rattle.bat.specs.Framing.{Element, whole, walk}
use Rattle.bat.specs.FramingMeaning.{element_in}

-- An element, its place, and how many octets it has.
pub record PlacedElement : Type 0 where
  pub at : ℕ
  pub length : ℕ
  pub element : Element

abbrev pub placed_element : ℕ → Element → PlacedElement
placed_element d e = record { at = d; length = length (whole e); element = e }

-- The elements of s, which starts at d of some octets, as far as it can be framed.
unfoldable pub placed_elements : ℕ → List ℕ → List PlacedElement
placed_elements d s = walk (λ e at ps. placed_element at e ∷ ps) (λ at. []) [] d s

-- what the iterator has left
abbrev pub left : Elements → List PlacedElement
left it = placed_elements it.at it.rest.now

-- what an item of it means
abbrev pub placed_in : Located → PlacedElement
placed_in x = record { at = x.at; length = x.length; element = element_in x.octets.now x.frame }
