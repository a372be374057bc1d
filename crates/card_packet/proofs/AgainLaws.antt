-- Each answer of the reader is answered as what it means; a stream means what its body says.
-- Assumes nothing.
use Prim.Native.Nat.{ℕ, ◌+◌}
use mathlib.Core.Path.{◌≡◌, refl, ap}
use mathlib.Core.List.{List}
use mathlib.Core.Option.{Option, none, some, map}
use native.Mathlib.Omega.{arith}
use Rattle.std.specs.Prelude.{Result, Ok, Err}
use Rattle.octets.specs.declared.Refusal.{Refusal}
use Rattle.octets.specs.Refusals.{refusal_number}
use Rattle.octets.specs.Puts.{Puts, refused_from}
use Rattle.address.specs.declared.Address.{Address}
use Rattle.media.specs.declared.Stream as code
use Rattle.media.specs.Meaning.{stream_in}
use Rattle.media.specs.Stream.{Stream}
use Rattle.ipbcp.specs.declared.MessageType.{MessageType}
use Rattle.ipbcp.specs.declared.MessageType.TheVariants.{Request, Accepted, Confused, Rejected}
use Rattle.ipbcp.specs.declared.Body.{Body}
use Rattle.ipbcp.specs.declared.Body.TheVariants as body
use Rattle.ipbcp.specs.declared.Description.{Description}
use Rattle.ipbcp.specs.declared.Message.{Message}
use Rattle.ipbcp.specs.declared.Message.TheVariants as answer
use Rattle.ipbcp.specs.Reading.{Reading, refused, typed, described}
use Rattle.ipbcp.specs.Writing.{message_octets_in}
use Rattle.ipbcp.specs.Meaning.{reading_in, content_in}
use Rattle.bctp.specs.Packet.{packet_text}
use Rattle.card_packet.specs.Again.{content_of, packet_of, put_for_c, rewrite_for_c, buffer_after_rewrite, Rewrites}
use Rattle.card_packet.specs.Private.{body_of}

-- the content of a body is what its stream says
content_body : (m : List ℕ) (k : MessageType) (s : code.Stream) (t : Stream) → stream_in m s ≡ some t → content_in m (body_of k s) ≡ some (content_of k t)
unfolding content_in content_of
content_body m Request s t e = rw e
content_body m Accepted s t e = rw e
content_body m Confused s t e = refl
content_body m Rejected s t e = refl

written : (a : Address) (m : List ℕ) (k : MessageType) (s : code.Stream) (t : Stream) → stream_in m s ≡ some t
    → map packet_text (message_octets_in a (content_in m (body_of k s))) ≡ packet_of k a t
unfolding message_octets_in packet_of
written a m k s t e = rw (content_body m k s t e)

-- what is written of each type
pub body_request : (k : MessageType) (s : code.Stream) → k ≡ Request → body.Request s ≡ body_of k s
body_request k s e = rw e

pub body_accepted : (k : MessageType) (s : code.Stream) → k ≡ Accepted → body.Accepted s ≡ body_of k s
body_accepted k s e = rw e

pub body_confused : (k : MessageType) (s : code.Stream) → k ≡ Confused → body.Confused ≡ body_of k s
body_confused k s e = rw e

pub body_rejected : (k : MessageType) (s : code.Stream) → k ≡ Rejected → body.Rejected ≡ body_of k s
body_rejected k s e = rw e

pub ruleset bodies = (body_request, body_accepted, body_confused, body_rejected)

-- a writer's answer
pub code_octets : (r : Result ℕ Refusal) (n : ℕ) → r ≡ Ok n → n ≡ put_for_c r
code_octets r n e = rw e

pub code_refused : (r : Result ℕ Refusal) (e : Refusal) → r ≡ Err e → (n : ℕ) → n ≡ refusal_number e → refused_from + n ≡ put_for_c r
code_refused r e h n p = rw (h, p)

pub ruleset codes = (code_octets, code_refused)

module _ (m : List ℕ) (x : Result Message Refusal) (r : Reading) (is : reading_in m x ≡ some r) (l : List ℕ) where
  pub rewrites_refused : (e : Refusal) → x ≡ Err e → (c : ℕ) → c ≡ put_for_c (Err e) → Rewrites r l c l
  unfolding reading_in rewrite_for_c buffer_after_rewrite
  rewrites_refused e h c p =
      let q : some (refused e) ≡ some r = rw h at is in
      let z : refused e ≡ r = cc in
      record { answers = rw (← z) p; leaves = rw (← z) }

  pub rewrites_typed : (v : ℕ) (k : MessageType) → x ≡ Ok (answer.Typed v k) → Rewrites r l 0 l
  unfolding reading_in rewrite_for_c buffer_after_rewrite
  rewrites_typed v k e =
      let q : some (typed v k) ≡ some r = rw e at is in
      let z : typed v k ≡ r = cc in
      record { answers = rw (← z); leaves = rw (← z) }

  described_in : (k : MessageType) (d : Description) → x ≡ Ok (answer.Described k d) → (o : Option Stream) → stream_in m d.stream ≡ o → (p : Result ℕ Refusal) (f : List ℕ)
      → Puts (map packet_text (message_octets_in d.address (content_in m (body_of k d.stream)))) l p f → Rewrites r l (put_for_c p) f
  unfolding reading_in rewrite_for_c buffer_after_rewrite
  described_in k d e none n p f w =
      let q : none ≡ some r = rw (e, n) at is in
      absurd (let z : ◌≡◌ {A = ℕ} 0 1 = cc in omega arith)
  described_in k d e (some t) n p f w =
      let q : some (described k d.address t) ≡ some r = rw (e, n) at is in
      let z : described k d.address t ≡ r = cc in
      let u : Puts (packet_of k d.address t) l p f = rw (written d.address m k d.stream t n) at w in
      record { answers = rw (← z) (ap put_for_c u.answers); leaves = rw (← z) u.leaves }

  pub rewrites_described : (k : MessageType) (d : Description) → x ≡ Ok (answer.Described k d) → (b : Body) → b ≡ body_of k d.stream → (p : Result ℕ Refusal) (f : List ℕ)
      → Puts (map packet_text (message_octets_in d.address (content_in m b))) l p f → (c : ℕ) → c ≡ put_for_c p → Rewrites r l c f
  rewrites_described k d e b g p f w c h =
      let u : Puts (map packet_text (message_octets_in d.address (content_in m (body_of k d.stream)))) l p f = rw g at w in
      rw h (described_in k d e (stream_in m d.stream) refl p f u)

pub ruleset rewrites = (rewrites_refused, rewrites_typed, rewrites_described)
