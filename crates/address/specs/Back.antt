-- What it means that a written address is read back.
use Rattle.std.specs.Prelude.{ℕ, ◌<◌, ◌^◌, List, Option}
use Rattle.address.specs.declared.Address.{Address}
use Rattle.address.specs.declared.Address.TheVariants.{V4, V6}
use Rattle.address.specs.Ipv4.{read_v4}
use Rattle.address.specs.Ipv6.{read_v6}

-- the address is a number of 32 bits, or two of 64
unfoldable pub fits : Address → Type 0
fits (V4 n) = n < 2 ^ 32
fits (V6 high low) = (high < 2 ^ 64) × (low < 2 ^ 64)

-- the reader of the address's family
unfoldable pub read_like : Address → List ℕ → Option Address
read_like (V4 n) s = read_v4 s
read_like (V6 high low) s = read_v6 s
