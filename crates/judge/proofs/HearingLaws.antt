-- Laws of what a message is to an endpoint: how it was read tells its version and type, so it tells what is heard.
-- Assumes nothing.
use Prim.Native.Nat.{ℕ, ◌≤◌}
use mathlib.Core.Path.{◌≡◌, refl, sym, ◌∙◌, ap}
use mathlib.Core.Logic.{◌⊎◌, inl, inr}
use mathlib.Core.List.{List}
use mathlib.Core.Bool.{true, false}
use mathlib.Core.Option.{Option, none, some, map}
use lib.ListN.{length}
use native.Mathlib.Omega.{arith}
use borrow.Author.Tests.{le-leb, lt-leb, eq-eqb, ne_eqb}
use Rattle.std.specs.Prelude.{Some, None, Result, Ok, Err}
use Rattle.std.specs.Prelude as code
use Rattle.octets.specs.declared.Refusal.{Refusal}
use Rattle.octets.specs.declared.Refusal.TheVariants.{MessageTooLong, Unreadable, WrongLine}
use Rattle.octets.specs.Refusals.{refusal_number}
use Rattle.octets.proofs.CaseLaws.{by_eq, by_le, by_bool}
use Rattle.address.specs.declared.Address.{Address}
use Rattle.media.specs.Stream.{Stream}
use Rattle.media.specs.Meaning.{stream_in}
use Rattle.ipbcp.specs.declared.MessageType.{MessageType}
use Rattle.ipbcp.specs.declared.MessageType.TheVariants.{Request, Accepted, Confused, Rejected}
use Rattle.ipbcp.specs.declared.Head.{Head}
use Rattle.ipbcp.specs.declared.Description.{Description}
use Rattle.ipbcp.specs.declared.Message.{Message}
use Rattle.ipbcp.specs.declared.Message.TheVariants as answer
use Rattle.ipbcp.specs.Types.{head_in}
use Rattle.ipbcp.specs.Reading.{Reading, refused, typed, described, concluded, is_described, by_head, most_read, read_message}
use Rattle.ipbcp.specs.Meaning.{reading_in}
use Rattle.bearer.specs.declared.Heard.TheVariants as taken
use Rattle.bearer.specs.Hearing.{nothing_heard, bearer_in, heard_typed, heard_by, heard}
use Rattle.bearer.specs.Meaning.{heard_in}
use Rattle.judge.specs.Private.{Wrong, Describes}

-- two refusals whose numbers differ
apart : (d e : Refusal) → (refusal_number d ≡ refusal_number e → ⊥) → d ≡ e → ⊥
apart d e n p = n (ap refusal_number p)

-- ---- the ways to read a message, and what is heard by each
data Told (m : List ℕ) : Reading → Type 0 where
  by_none : {e : Refusal} → (e ≡ WrongLine → ⊥) → heard m ≡ nothing_heard → Told m (refused e)
  by_type : {v : ℕ} {k : MessageType} → (v ≡ 1 → is_described k ≡ false) → heard m ≡ heard_typed k v (typed v k) → Told m (typed v k)
  by_wrong : {k : MessageType} → head_in m ≡ Some (record { version = 1; kind = k }) → heard m ≡ heard_typed k 1 (refused WrongLine) → Told m (refused WrongLine)
  by_lines : {k : MessageType} {a : Address} {s : Stream} → heard m ≡ heard_typed k 1 (described k a s) → Told m (described k a s)

module _ (m : List ℕ) (short : length m ≤ most_read) where
  read_by : (h : code.Option Head) → head_in m ≡ h → read_message m ≡ by_head m h
  unfolding read_message
  read_by h e = rw (le-leb (length m) most_read short, e)

  heard_by_lem : (h : Head) (r : Reading) → head_in m ≡ Some h → read_message m ≡ r → heard m ≡ heard_typed h.kind h.version r
  unfolding heard heard_by
  heard_by_lem h r e q = rw (le-leb (length m) most_read short, e, q)

  told_finished : (k : MessageType) (o : Option _) → head_in m ≡ Some (record { version = 1; kind = k }) → read_message m ≡ concluded k o → Told m (concluded k o)
  unfolding concluded
  told_finished k none e q = by_wrong e (heard_by_lem (record { version = 1; kind = k }) (refused WrongLine) e q)
  told_finished k (some d) e q =
      let h : Head = record { version = 1; kind = k } in
      by_eq d.had 7 _
      (λ n. let z = eq-eqb d.had 7 n in rw z (by_lines (heard_by_lem h (described k d.address d.stream) e (rw z at q))))
      (λ n. let z = ne_eqb d.had 7 n in rw z (by_wrong e (heard_by_lem h (refused WrongLine) e (rw z at q))))

  told_head : (h : code.Option Head) → head_in m ≡ h → read_message m ≡ by_head m h → Told m (by_head m h)
  unfolding by_head heard heard_by
  told_head None e q = by_none {e = Unreadable} (apart Unreadable WrongLine (λ z. omega arith)) (rw (le-leb (length m) most_read short, e))
  told_head (Some h) e q =
      by_eq h.version 1 _
      (λ one. let z = eq-eqb h.version 1 one in
      by_bool (is_described h.kind) _
      (λ d. rw (z, d) (told_finished h.kind _ (e ∙ ap (λ (v : ℕ). Some (record { version = v; kind = h.kind })) one) (rw (z, d) at q)))
      (λ d. rw (z, d) (by_type (λ _. d) (heard_by_lem h (typed h.version h.kind) e (rw (z, d) at q)))))
      (λ other. let z = ne_eqb h.version 1 other in
      rw z (by_type (λ one. absurd (other one)) (heard_by_lem h (typed h.version h.kind) e (rw z at q))))

told : (m : List ℕ) → Told m (read_message m)
unfolding read_message heard
told m =
    by_le (length m) most_read _
    (λ h. let e = read_by m h (head_in m) refl in rw e (told_head m h (head_in m) refl e))
    (λ h. let z = lt-leb (length m) most_read h in rw z (by_none {e = MessageTooLong} (apart MessageTooLong WrongLine (λ k. omega arith)) (rw z)))

-- ---- messages of which only version and type are read
module _ (k : MessageType) where
  typed_told : (m : List ℕ) (v : ℕ) → read_message m ≡ typed v k → (v ≡ 1 → is_described k ≡ false) × (heard m ≡ heard_typed k v (typed v k))
  typed_told m v p = go (rw p at (told m))
    where
      go : Told m (typed v k) → (v ≡ 1 → is_described k ≡ false) × (heard m ≡ heard_typed k v (typed v k))
      go (by_type h e) = (h, e)

  pub typed_request : k ≡ Request → (m : List ℕ) (v : ℕ) → read_message m ≡ typed v k → heard_in m taken.OtherRequest ≡ some (heard m)
  unfolding heard_in is_described
  typed_request r m v p =
      let (h, e) = typed_told m v p in
      let other : v ≡ 1 → ⊥ = λ one. let f : true ≡ false = sym (ap is_described r) ∙ h one in let z : ◌≡◌ {A = ℕ} 0 1 = cc in omega arith in
      rw (e, r, ne_eqb v 1 other)

  pub typed_accepted : k ≡ Accepted → (m : List ℕ) (v : ℕ) → read_message m ≡ typed v k → heard_in m (taken.Accepted None) ≡ some (heard m)
  unfolding heard_in bearer_in
  typed_accepted r m v p = rw ((typed_told m v p).1, r)

  pub typed_declined : (k ≡ Confused) ⊎ (k ≡ Rejected) → (m : List ℕ) (v : ℕ) → read_message m ≡ typed v k → heard_in m taken.Declined ≡ some (heard m)
  unfolding heard_in
  typed_declined (inl r) m v p = rw ((typed_told m v p).1, r)
  typed_declined (inr r) m v p = rw ((typed_told m v p).1, r)

-- ---- messages of version 1: o is what the message says, if it can be read to its end
module _ (k : MessageType) (o : code.Option Description) where
  -- what is heard by type
  described_told : (m : List ℕ) → Describes m k o → (r : Reading) × (heard m ≡ heard_typed k 1 r) × (heard_in m (taken.Request o) ≡ some (heard_typed Request 1 r))
      × (heard_in m (taken.Accepted o) ≡ some (heard_typed Accepted 1 r))
  unfolding heard_in bearer_in reading_in
  described_told m = go o
    where
      wrong : Wrong m k → Told m (refused WrongLine) → heard m ≡ heard_typed k 1 (refused WrongLine)
      wrong w (by_none h e) = absurd (h refl)
      wrong w (by_wrong {k = j} h e) = let both = sym h ∙ w.head in let heads : ◌≡◌ {A = Head} (record { version = 1; kind = j }) (record { version = w.version; kind = k }) = cc in rw (ap (λ (x : Head). x.kind) heads) at e

      lines : (a : Address) (t : Stream) → Told m (described k a t) → heard m ≡ heard_typed k 1 (described k a t)
      lines a t (by_lines e) = e

      go : (p : code.Option Description) → Describes m k p → (r : Reading) × (heard m ≡ heard_typed k 1 r) × (heard_in m (taken.Request p) ≡ some (heard_typed Request 1 r))
          × (heard_in m (taken.Accepted p) ≡ some (heard_typed Accepted 1 r))
      go None w = (refused WrongLine, wrong w (rw w.why at (told m)), refl, refl)
      go (Some d) w = streams (stream_in m d.stream) refl w
        where
          streams : (s : Option Stream) → stream_in m d.stream ≡ s → map (described k d.address) s ≡ some (read_message m)
              → (r : Reading) × (heard m ≡ heard_typed k 1 r) × (heard_in m (taken.Request (Some d)) ≡ some (heard_typed Request 1 r))
              × (heard_in m (taken.Accepted (Some d)) ≡ some (heard_typed Accepted 1 r))
          streams none u p = let z : ◌≡◌ {A = ℕ} 0 1 = cc in absurd (omega arith)
          streams (some t) u p =
              let e : read_message m ≡ described k d.address t = cc in
              (described k d.address t, lines d.address t (rw e at (told m)), rw u, rw u)

  pub described_request : k ≡ Request → (m : List ℕ) → Describes m k o → heard_in m (taken.Request o) ≡ some (heard m)
  described_request p m h = let (r, e, f, g) = described_told m h in f ∙ ap some (ap (λ (j : MessageType). heard_typed j 1 r) (sym p) ∙ sym e)

  pub described_accepted : k ≡ Accepted → (m : List ℕ) → Describes m k o → heard_in m (taken.Accepted o) ≡ some (heard m)
  described_accepted p m h = let (r, e, f, g) = described_told m h in g ∙ ap some (ap (λ (j : MessageType). heard_typed j 1 r) (sym p) ∙ sym e)

  pub described_declined : (k ≡ Confused) ⊎ (k ≡ Rejected) → (m : List ℕ) → Describes m k o → heard_in m taken.Declined ≡ some (heard m)
  unfolding heard_in
  described_declined (inl p) m h = let (r, e, f, g) = described_told m h in ap some (ap (λ (j : MessageType). heard_typed j 1 r) (sym p) ∙ sym e)
  described_declined (inr p) m h = let (r, e, f, g) = described_told m h in ap some (ap (λ (j : MessageType). heard_typed j 1 r) (sym p) ∙ sym e)

-- ---- a message that the code has read as y
module _ (m : List ℕ) (y : Result Message Refusal) (is : reading_in m y ≡ some (read_message m)) where
  pub read_typed : (v : ℕ) (k : MessageType) (x : Message) → y ≡ Ok x → x ≡ answer.Typed v k → read_message m ≡ typed v k
  unfolding reading_in
  read_typed v k x p q = let e : some (typed v k) ≡ some (read_message m) = rw (p, q) at is in cc

  pub read_described : (k : MessageType) (d : Description) (x : Message) → y ≡ Ok x → x ≡ answer.Described k d → Describes m k (Some d)
  read_described k d x p q = rw (p, q) at is

  module _ (e : Refusal) (q : y ≡ Err e) where
    read_refused : read_message m ≡ refused e
    unfolding reading_in
    read_refused = let f : some (refused e) ≡ some (read_message m) = rw q at is in cc

    pub read_wrong : e ≡ WrongLine → read_message m ≡ refused WrongLine
    read_wrong p = rw p at read_refused

    pub hear_refused : (e ≡ WrongLine → ⊥) → heard_in m taken.Unreadable ≡ some (heard m)
    unfolding heard_in
    hear_refused other = go other (rw read_refused at (told m))
      where
        go : {i : Refusal} → (i ≡ WrongLine → ⊥) → Told m (refused i) → some nothing_heard ≡ some (heard m)
        go o (by_none h e) = rw e
        go o (by_wrong h e) = absurd (o refl)

-- one with a wrong line has a type
pub wrong_untyped : (m : List ℕ) → read_message m ≡ refused WrongLine → (h : code.Option Head) → h ≡ head_in m → h ≡ None → heard_in m taken.Unreadable ≡ some (heard m)
wrong_untyped m w h is n = go (rw w at (told m))
  where
    go : Told m (refused WrongLine) → heard_in m taken.Unreadable ≡ some (heard m)
    go (by_none o e) = absurd (o refl)
    go (by_wrong f e) = let z : ◌≡◌ {A = ℕ} 0 1 = cc in absurd (omega arith)
