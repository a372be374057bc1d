-- What it means that a message is read back from a packet that `write_packet` wrote.
use Rattle.std.specs.Prelude.{ℕ, ◌≡◌, List}
use Rattle.std.proofs.Math.Option.{Option}
use Rattle.address.specs.declared.Address.{Address}
use Rattle.ipbcp.specs.Writing.{Content}
use Rattle.ipbcp_write.specs.Back.{Said}
use Rattle.bctp.specs.Packet.{tunnel_message, opened_packet}

-- p is a packet whose message is read as the content o, with the own address
pub record Carried (own : Address) (o : Option Content) (p : List ℕ) : Type 0 where
  pub text : List ℕ
  pub opens : opened_packet p ≡ tunnel_message text
  pub says : Said own o text
