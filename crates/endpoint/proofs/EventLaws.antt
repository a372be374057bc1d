-- From a verdict to an event: number 4 if the buffer is short, otherwise the rules' verdict in this state; and from a writer's answer
-- to a verdict that writes a message, which fits since a message has at most 447 octets.
-- Assumes nothing.
use Prim.Native.Nat.{ℕ, ◌≤◌, ◌<◌}
use mathlib.Core.Path.{◌≡◌, refl, sym, ◌∙◌, ap, subst}
use mathlib.Core.Bool.{Bool, true, false, cond, not}
use mathlib.Core.List.{List}
use mathlib.Core.Option.{Option, none, some}
use lib.ListN.{length}
use native.Mathlib.Omega.{arith}
use borrow.Author.Tests.{lt-ltb, le-ltb}
use Rattle.std.specs.Prelude.{Some, None, Result, Ok, Err, IfSome}
use Rattle.std.specs.Prelude as code
use Rattle.octets.specs.declared.Refusal.{Refusal}
use Rattle.octets.specs.declared.Refusal.TheVariants.{BufferTooShort, OutOfRange, WrongState}
use Rattle.octets.specs.Puts.{put_answer, put_leaves, Puts}
use Rattle.octets.proofs.PutsLaws.{puts_no, puts_some}
use Rattle.address.specs.declared.Address.{Address}
use Rattle.ipbcp.specs.declared.Body.TheVariants as asked_for
use Rattle.ipbcp.specs.Meaning.{content_in}
use Rattle.ipbcp.specs.Writing.{Content, request_content, message_octets, message_octets_in}
use Rattle.ipbcp.proofs.RoundTrip.{octets_are}
use Rattle.media.specs.Stream.{Stream}
use Rattle.media.specs.Meaning.{stream_inside, stream_in}
use Rattle.book.specs.declared.State.{State}
use Rattle.book.specs.declared.State.TheVariants.{Idle, AwaitSetup, Up, AwaitChange}
use Rattle.book.specs.declared.Side.{Side}
use Rattle.book.specs.Book.{refused, discarded, failed, released}
use Rattle.book.specs.contracts.StatePartialEq.TheImpl as states
use Rattle.book.specs.States.{awaits_t1, awaits_t2}
use Rattle.configuration.specs.Configuration.{Configuration}
use Rattle.configuration.specs.Meaning.{configuration_by}
use Rattle.bearer.specs.declared.Request.{Request}
use Rattle.bearer.specs.Bearer.{Bearer}
use Rattle.bearer.specs.Judging.{commanded}
use Rattle.bearer.specs.Meaning.{request_by, bearer_by}
use Rattle.judge.specs.Commands.{command_by, Commands}
use Rattle.endpoint.specs.declared.Endpoint.{Endpoint}
use Rattle.endpoint.specs.declared.Answer.{Answer}
use Rattle.endpoint.specs.Rule.{Verdict, Event, if_writable, command_verdict, event_verdict, rule, least_room}
use Rattle.endpoint.specs.Step.{book_by, book_of, Gave, Did}
use Rattle.endpoint.specs.Private.{in_state, InRoom, Silent, Says}

-- a Request whose texts lie inside its array is what is written
pub offered_content : (q : Request) → stream_inside q.text q.stream ≡ true → content_in q.text (asked_for.Request q.stream) ≡ some (request_content (request_by q))
unfolding content_in stream_in request_by
offered_content q h = rw h

-- ---- the rules of each event but a message, read on the state
module _ (c : Configuration) where
  set_up_by : (n p t : ℕ) (st : State) (s : Side) (q : Stream) (b : Bearer)
      → event_verdict c (book_by st s q b) (Event.set_up n p t) ≡ in_state st Idle (command_verdict c (commanded c n p t))
  set_up_by n p t Idle s q b = refl
  set_up_by n p t AwaitSetup s q b = refl
  set_up_by n p t Up s q b = refl
  set_up_by n p t AwaitChange s q b = refl

  change_by : (n p t : ℕ) (st : State) (s : Side) (q : Stream) (b : Bearer)
      → event_verdict c (book_by st s q b) (Event.change n p t) ≡ in_state st Up (command_verdict c (commanded c n p t))
  change_by n p t Idle s q b = refl
  change_by n p t AwaitSetup s q b = refl
  change_by n p t Up s q b = refl
  change_by n p t AwaitChange s q b = refl

  release_by : (st : State) (s : Side) (q : Stream) (b : Bearer)
      → event_verdict c (book_by st s q b) Event.release ≡ cond ((states.ghosts).eq st Idle) (refused WrongState) released
  release_by Idle s q b = refl
  release_by AwaitSetup s q b = refl
  release_by Up s q b = refl
  release_by AwaitChange s q b = refl

  t1_by : (st : State) (s : Side) (q : Stream) (b : Bearer) → event_verdict c (book_by st s q b) Event.t1 ≡ cond (awaits_t1 st) failed discarded
  t1_by Idle s q b = refl
  t1_by AwaitSetup s q b = refl
  t1_by Up s q b = refl
  t1_by AwaitChange s q b = refl

  t2_by : (st : State) (s : Side) (q : Stream) (b : Bearer) → event_verdict c (book_by st s q b) Event.t2 ≡ cond (awaits_t2 st) failed discarded
  t2_by Idle s q b = refl
  t2_by AwaitSetup s q b = refl
  t2_by Up s q b = refl
  t2_by AwaitChange s q b = refl

module _ (self : Endpoint) where
  -- ---- a verdict that a test picks
  module _ (t : Bool) (v w : Verdict) (xs ys : List ℕ) (r : Answer) where
    gave_true : t ≡ true → Gave self v xs ys r → Gave self (cond t v w) xs ys r
    gave_true p g = rw p g

    gave_false : t ≡ false → Gave self w xs ys r → Gave self (cond t v w) xs ys r
    gave_false p g = rw p g

  module _ (t : Bool) (v w : Verdict) (r : Answer) where
    pub silent_true : t ≡ true → Silent self v r → Silent self (cond t v w) r
    silent_true p g = rw p g

    pub silent_false : t ≡ false → Silent self w r → Silent self (cond t v w) r
    silent_false p g = rw p g

  -- ---- a buffer that is too short, or long enough
  pub in_room_short : (v : Verdict) (xs : List ℕ) (r : Answer) → length xs < least_room → Silent self (refused BufferTooShort) r → InRoom self v xs xs r
  in_room_short v xs r h g = gave_true _ _ _ xs xs r (lt-ltb _ _ h) (g xs)

  pub in_room_long : (v : Verdict) (xs ys : List ℕ) (r : Answer) → least_room ≤ length xs → Gave self v xs ys r → InRoom self v xs ys r
  in_room_long v xs ys r h g = gave_false _ _ _ xs ys r (le-ltb _ _ h) g

  pub in_room_silent : (v : Verdict) (xs : List ℕ) (r : Answer) → least_room ≤ length xs → Silent self v r → InRoom self v xs xs r
  in_room_silent v xs r h g = in_room_long v xs xs r h (g xs)

  -- ---- a command in a state that it suits, or not
  module _ (at s : State) (v : Verdict) (t : Bool) (p : t ≡ not ((states.ghosts).eq at s)) where
    pub suited : t ≡ false → (xs ys : List ℕ) (r : Answer) → least_room ≤ length xs → Gave self v xs ys r → InRoom self (in_state at s v) xs ys r
    suited q xs ys r h g = in_room_long _ xs ys r h (gave_true _ _ _ xs ys r (not_false ((states.ghosts).eq at s) (sym p ∙ q)) g)
      where
        not_false : (b : Bool) → not b ≡ false → b ≡ true
        not_false true e = refl
        not_false false e = sym e

    pub unsuited : t ≡ true → (xs : List ℕ) (r : Answer) → least_room ≤ length xs → Silent self (refused WrongState) r → InRoom self (in_state at s v) xs xs r
    unsuited q xs r h g = in_room_long _ xs xs r h (gave_false _ _ _ xs xs r (not_true ((states.ghosts).eq at s) (sym p ∙ q)) (g xs))
      where
        not_true : (b : Bool) → not b ≡ true → b ≡ false
        not_true true e = sym e
        not_true false e = refl

  -- ---- from the rules' verdict to an event
  pub did : (e : Event) (v : Verdict) (xs ys : List ℕ) (r : Answer) → event_verdict (configuration_by self.config) (book_of self) e ≡ v → InRoom self v xs ys r → Did self e xs ys r
  unfolding rule
  did e v xs ys r p g = subst (λ (w : Verdict). InRoom self w xs ys r) (sym p) g

  module _ (xs ys : List ℕ) (r : Answer) where
    module _ (n p t : ℕ) where
      pub did_set_up : InRoom self (in_state self.state Idle (command_verdict (configuration_by self.config) (commanded (configuration_by self.config) n p t))) xs ys r
          → Did self (Event.set_up n p t) xs ys r
      did_set_up g = did (Event.set_up n p t) _ xs ys r (set_up_by (configuration_by self.config) n p t self.state self.side (request_by self.request) (bearer_by self.bearer)) g

      pub did_change : InRoom self (in_state self.state Up (command_verdict (configuration_by self.config) (commanded (configuration_by self.config) n p t))) xs ys r
          → Did self (Event.change n p t) xs ys r
      did_change g = did (Event.change n p t) _ xs ys r (change_by (configuration_by self.config) n p t self.state self.side (request_by self.request) (bearer_by self.bearer)) g

    did_release : InRoom self (cond ((states.ghosts).eq self.state Idle) (refused WrongState) released) xs ys r → Did self Event.release xs ys r
    did_release g = did Event.release _ xs ys r (release_by (configuration_by self.config) self.state self.side (request_by self.request) (bearer_by self.bearer)) g

    -- w is whether the timer is awaited
    pub did_t1 : (w : Bool) → w ≡ awaits_t1 self.state → InRoom self (cond w failed discarded) xs ys r → Did self Event.t1 xs ys r
    did_t1 w e g =
        did Event.t1 _ xs ys r
        (t1_by (configuration_by self.config) self.state self.side (request_by self.request) (bearer_by self.bearer) ∙ ap (λ (b : Bool). cond b failed discarded) (sym e)) g

    pub did_t2 : (w : Bool) → w ≡ awaits_t2 self.state → InRoom self (cond w failed discarded) xs ys r → Did self Event.t2 xs ys r
    did_t2 w e g =
        did Event.t2 _ xs ys r
        (t2_by (configuration_by self.config) self.state self.side (request_by self.request) (bearer_by self.bearer) ∙ ap (λ (b : Bool). cond b failed discarded) (sym e)) g

  module _ (xs : List ℕ) (r : Answer) where
    pub short_release : length xs < least_room → Silent self (refused BufferTooShort) r → Did self Event.release xs xs r
    short_release h g = did_release xs xs r (in_room_short _ xs r h g)

    pub idle_release : (t : Bool) → t ≡ (states.ghosts).eq self.state Idle → t ≡ true → least_room ≤ length xs → Silent self (refused WrongState) r → Did self Event.release xs xs r
    idle_release t p q h g = did_release xs xs r (in_room_silent _ xs r h (silent_true _ _ _ r (sym p ∙ q) g))

    pub busy_release : (t : Bool) → t ≡ (states.ghosts).eq self.state Idle → t ≡ false → least_room ≤ length xs → Silent self released r → Did self Event.release xs xs r
    busy_release t p q h g = did_release xs xs r (in_room_silent _ xs r h (silent_false _ _ _ r (sym p ∙ q) g))

  -- ---- a message that a writer was asked for
  -- it writes octets, or refuses by number 5
  wrote : (o : Option (List ℕ)) (v : List ℕ → Verdict) (xs ys : List ℕ) (n : ℕ) (r : Answer) → Puts o xs (Ok n) ys → Says self v n r → Gave self (if_writable o v) xs ys r
  wrote none v xs ys n r p g = absurd (puts_no xs n ys p)
  wrote (some t) v xs ys n r p g =
      let (count, leaves) = puts_some t xs n ys p in
      subst (λ (zs : List ℕ). Gave self (v t) xs zs r) (sym leaves) (g t xs (sym count))

  unwritten : (o : Option (List ℕ)) (v : List ℕ → Verdict) (xs ys : List ℕ) (e : Refusal) (r : Answer) → ((t : List ℕ) → o ≡ some t → length t ≤ length xs)
      → Puts o xs (Err e) ys → Silent self (refused e) r → Gave self (if_writable o v) xs ys r
  unfolding put_answer put_leaves
  unwritten none v xs ys e r short p g =
      let five : e ≡ OutOfRange = (let q : Err e ≡ Err OutOfRange = p.answers in cc) in
      subst (λ (zs : List ℕ). Gave self (refused OutOfRange) xs zs r) (sym p.leaves) (subst (λ (x : Refusal). Gave self (refused x) xs xs r) five (g xs))
  unwritten (some t) v xs ys e r short p g =
      let fits : length t ≤ length xs = short t refl in
      let a = p.answers in
      let q : Err e ≡ Ok (length t) = rw (le-ltb (length xs) (length t) fits) at a in
      absurd (let z : ◌≡◌ {A = ℕ} 0 1 = cc in omega arith)

  module _ (own : Address) (c : Content) (v : List ℕ → Verdict) (xs ys : List ℕ) (p : Result ℕ Refusal) (o : Option Content) (is : o ≡ some c) (puts : Puts (message_octets_in own o) xs p ys) where
    asked : Puts (message_octets own c) xs p ys
    unfolding message_octets_in
    asked = subst (λ (x : Option Content). Puts (message_octets_in own x) xs p ys) is puts

    pub if_writable_octets : (n : ℕ) (r : Answer) → p ≡ Ok n → Says self v n r → Gave self (if_writable (message_octets own c) v) xs ys r
    if_writable_octets n r q g = wrote (message_octets own c) v xs ys n r (subst (λ (x : Result ℕ Refusal). Puts (message_octets own c) xs x ys) q asked) g

    pub if_writable_refused : (e : Refusal) (r : Answer) → least_room ≤ length xs → p ≡ Err e → Silent self (refused e) r
        → Gave self (if_writable (message_octets own c) v) xs ys r
    if_writable_refused e r room q g =
        unwritten (message_octets own c) v xs ys e r (λ t h. let (_, _, few, _) = octets_are own c t h in omega arith)
        (subst (λ (x : Result ℕ Refusal). Puts (message_octets own c) xs x ys) q asked) g

  -- ---- commands
  pub command_wrong : (entry payload ptime : ℕ) (o : code.Option Request) (xs : List ℕ) (r : Answer) → Commands (configuration_by self.config) entry payload ptime o → o ≡ None
      → Silent self (refused OutOfRange) r → Gave self (command_verdict (configuration_by self.config) (commanded (configuration_by self.config) entry payload ptime)) xs xs r
  command_wrong entry payload ptime o xs r h p g = subst (λ (x : Option Stream). Gave self (command_verdict (configuration_by self.config) x) xs xs r) (sym (ap command_by p) ∙ h.is) (g xs)
