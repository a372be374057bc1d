-- What it means that an element is read back from the buffer of a writer.
use Rattle.std.specs.Prelude.{ℕ, ◌≡◌, List, length, drop}
use Rattle.std.proofs.Math.Option.{some}
use Rattle.bat_write.specs.Code as code
use Rattle.bat.specs.Framing.{Element, whole, front, first}
use Rattle.bat.specs.Values.{Value, decoded, decoding, meant}
use Rattle.bat.specs.ValueMeaning.{value_in}

-- At the front of f, in n octets, is an element that is decoded as the value v, with the compatibility bits c.
pub record ElementBack (v : Value) (c n : ℕ) (f : List ℕ) : Type 0 where
  pub element : Element
  pub fronts : front f ≡ first element (drop n f)
  pub covers : length (whole element) ≡ n
  pub means : meant element.compatibility ≡ c
  pub decodes : decoding element.identifier element.contents ≡ decoded v

-- At the front of f, in n octets, is an element that is decoded as the value that v means, with the compatibility bits of c.
pub record WrittenBack (s : List ℕ) (v : code.Value) (c n : ℕ) (f : List ℕ) : Type 0 where
  pub value : Value
  pub stands : value_in s v ≡ some value
  pub element : Element
  pub fronts : front f ≡ first element (drop n f)
  pub covers : length (whole element) ≡ n
  pub means : meant element.compatibility ≡ meant c
  pub decodes : decoding element.identifier element.contents ≡ decoded value
