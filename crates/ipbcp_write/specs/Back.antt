-- What it means that a message is read back from the buffer of `write_message`.
use Rattle.std.specs.Prelude.{ℕ, ◌≡◌, List}
use Rattle.std.proofs.Math.Option.{Option, some}
use Rattle.address.specs.declared.Address.{Address}
use Rattle.ipbcp.specs.Reading.{read_message}
use Rattle.ipbcp.specs.Writing.{Content, reading_of}

-- there is content, and t is read as that content with the own address
pub record Said (own : Address) (o : Option Content) (t : List ℕ) : Type 0 where
  pub content : Content
  pub stands : o ≡ some content
  pub reads : read_message t ≡ reading_of own content
