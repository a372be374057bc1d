-- What `write_message` reports as written is read back from the buffer as what was given: the octets at its front are the
-- message, which is read so.
-- Assumes nothing.
use Prim.Native.Nat.{ℕ}
use mathlib.Core.Path.{◌≡◌, refl, sym, ap}
use mathlib.Core.List.{List}
use mathlib.Core.Option.{Option, none, some}
use lib.ListN.{length, take, drop}
use lib.Seq.{take_at}
use native.Mathlib.Omega.{arith}
use Rattle.std.specs.Prelude.{Ok}
use Rattle.octets.specs.Puts.{Puts}
use Rattle.octets.proofs.PutsLaws.{puts_no, puts_some}
use Rattle.address.specs.declared.Address.{Address}
use Rattle.address.specs.Back.{fits}
use Rattle.ipbcp.specs.declared.Body.{Body}
use Rattle.ipbcp.specs.Writing.{Content, message_octets_in}
use Rattle.ipbcp.specs.Meaning.{content_in}
use Rattle.ipbcp.proofs.RoundTrip.{read_written}
use Rattle.ipbcp_write.specs.Back.{Said}

-- the first n octets are what there was to write
pub puts_front : (o : Option (List ℕ)) (l : List ℕ) (n : ℕ) (f : List ℕ) → Puts o l (Ok n) f → o ≡ some (take n f)
puts_front none l n f p = absurd (puts_no l n f p)
puts_front (some t) l n f p =
    let (count, leaves) = puts_some t l n f p in
    let front : take n f ≡ t = rw leaves (take_at t (drop (length t) l) n (sym count)) in
    ap some (sym front)

pub said : (own : Address) → fits own → (o : Option Content) (t : List ℕ) → message_octets_in own o ≡ some t → Said own o t
unfolding message_octets_in
said own fit none t e = absurd (let z : ◌≡◌ {A = ℕ} 0 1 = cc in omega arith)
said own fit (some c) t e = record { content = c; stands = refl; reads = read_written own c t fit e }

-- from the contract of `write_message`, where it answers n octets
pub message_written_back : (own : Address) → fits own → (source : List ℕ) (b : Body) (l : List ℕ) (n : ℕ) (f : List ℕ)
    → Puts (message_octets_in own (content_in source b)) l (Ok n) f → Said own (content_in source b) (take n f)
message_written_back own fit source b l n f p = said own fit (content_in source b) (take n f) (puts_front (message_octets_in own (content_in source b)) l n f p)
