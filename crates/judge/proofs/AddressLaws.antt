-- The derived `==` of addresses is the definition's.
-- Assumes nothing.
use mathlib.Core.Path.{◌≡◌, refl}
use Rattle.address.specs.contracts.AddressPartialEq.TheImpl as derived
use Rattle.address.specs.declared.Address.{Address}
use Rattle.address.specs.declared.Address.TheVariants.{V4, V6}
use Rattle.bearer.specs.Judging.{same_address}

pub equal_is : (a b : Address) → (derived.ghosts).eq a b ≡ same_address a b
unfolding same_address
equal_is (V4 m) (V4 n) = refl
equal_is (V4 m) (V6 h l) = refl
equal_is (V6 h l) (V4 n) = refl
equal_is (V6 h l) (V6 i m) = refl
