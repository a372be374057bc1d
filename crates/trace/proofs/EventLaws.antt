-- Laws of the lines of events: what the endpoint's contract says of an event is what its line prints.
-- Assumes nothing.
use Prim.Native.Nat.{ℕ, ◌+◌, ◌-◌, ◌/◌, ◌^◌, ◌≤◌, min}
use mathlib.Core.Path.{◌≡◌, refl, sym, ap, ◌∙◌}
use mathlib.Core.List.{List, [], ◌∷◌, ◌++◌, append_assoc}
use mathlib.Core.Bool.{Bool, true, false, not}
use mathlib.Core.Option.{Option, none, some}
use lib.ListN.{length, take, drop, length-drop, take-append-drop}
use lib.Seq.{take_at, length-take-le}
use native.Mathlib.Omega.{arith}
use borrow.Rule.Slice.PartMut.{mid_of, put_mid}
use mir.Syntax.{w64}
use mir.Val.{Fits}
use borrow.Author.Tests.{lt-ltb, le-ltb, not-true, not-false}
use Rattle.std.specs.Prelude as code
use Rattle.std.specs.Prelude.{Some, None, Result, Ok, Err}
use Rattle.std.specs.Bool.{then_some}
use Rattle.octets.specs.declared.Refusal.{Refusal}
use Rattle.octets.specs.declared.Refusal.TheVariants.{BadLine}
use Rattle.octets.specs.declared.append.Cursor.{Cursor}
use Rattle.octets.specs.Refusals.{refusal_number}
use Rattle.octets.specs.Append.{Pushes}
use Rattle.octets.proofs.CaseLaws.{by_lt}
use Rattle.octets.specs.Chain.{when}
use Rattle.octets.specs.Text.{lf}
use Rattle.book.specs.declared.State.{State}
use Rattle.book.specs.declared.State.TheVariants.{Idle, AwaitSetup, Up, AwaitChange}
use Rattle.book.specs.declared.Side.{Side}
use Rattle.book.specs.Book.{state_of, settled, moved, replied, refusal, done}
use Rattle.book.specs.Book as told
use Rattle.media.specs.Stream.{Stream}
use Rattle.configuration.specs.Meaning.{configuration_by, config_inside}
use Rattle.bearer.specs.Bearer.{Bearer}
use Rattle.bearer.specs.Meaning.{request_by, bearer_by}
use Rattle.endpoint.specs.declared.Endpoint.{Endpoint}
use Rattle.endpoint.specs.declared.Answer.{Answer}
use Rattle.endpoint.specs.declared.Event as value
use Rattle.endpoint.specs.declared.Event.TheVariants.{SetUp, Change, Release, T1, T2, Message}
use Rattle.endpoint.specs.Rule.{Event, rule}
use Rattle.notation.specs.Notation.{ReadsOctets}
use Rattle.notation.proofs.OctetsLaws.{read_back, read_wrong}
use Rattle.trace_read.specs.declared.Asked.{Asked}
use Rattle.trace_read.specs.declared.Asked.TheVariants as reading
use Rattle.trace_read.specs.declared.Lent as places
use Rattle.trace_read.specs.Words.{most_line}
use Rattle.trace_read.specs.Events.{line_event, message_by}
use Rattle.trace_read.specs.Lending.{lent_in}
use Rattle.trace_read.specs.Meaning.{asked_by, Asks, lent_by}
use Rattle.trace_write.specs.Words.{kind_word}
use Rattle.trace_write.specs.Lines.{kind_field, number_and_kind, numbered, event_text}
use Rattle.trace_write.specs.Detail.{detail_text}
use Rattle.endpoint.specs.declared.Done as reply
use Rattle.endpoint.specs.Step.{book_by, book_of, reply_for, out_for, Gave, Did, event_by}
use Rattle.trace_write.proofs.PushLaws.{pushes_then}
use Rattle.trace.specs.declared.Session.{Session}
use Rattle.trace.specs.declared.Session.TheVariants.{Running}
use Rattle.trace.specs.declared.events.Ready.{Ready}
use Rattle.trace.specs.Trace.{line_of, verdict_on, reply_octets, detail_if, event_line, verdict_effect, next_number, event_effect}
use Rattle.trace.specs.Meaning.{trace_by, inside_by, Does}
use Rattle.trace.specs.Private.{effect_on, Passes, ready_by, written_by, answer_line, DidFront}
use Rattle.trace.proofs.ConfiguringLaws.{pushes_nil}

-- ---- an endpoint's book
state_by : (st : State) (s : Side) (q : Stream) (b : Bearer) → state_of (book_by st s q b) ≡ st
state_by Idle s q b = refl
state_by AwaitSetup s q b = refl
state_by Up s q b = refl
state_by AwaitChange s q b = refl

state_is : (e : Endpoint) → state_of (book_of e) ≡ e.state
state_is e = state_by e.state e.side (request_by e.request) (bearer_by e.bearer)

-- the word of an event does not depend on a message's octets
kind_same : (event : value.Event) (m : List ℕ) → kind_word (event_by event m) ≡ kind_word (event_by event [])
unfolding kind_word
kind_same (SetUp a b c) m = refl
kind_same (Change a b c) m = refl
kind_same Release m = refl
kind_same T1 m = refl
kind_same T2 m = refl
kind_same Message m = refl

line_same : (d : Bool) (n : ℕ) (event : value.Event) (m : List ℕ) (s : State) (r : Result reply.Done Refusal) (o : List ℕ) (force : Option Bearer)
    → event_line d n (some (event_by event m)) s r o force ≡ event_line d n (some (event_by event [])) s r o force
unfolding event_line event_text number_and_kind kind_field
line_same d n event m s r o force = rw (kind_same event m)

-- ---- the end of a line
pub more_yes : (d : Bool) (s : List ℕ) (k f : Cursor) (x y : Option Bearer) → x ≡ y → d ≡ true → Pushes k f (detail_text s x) → Pushes k f (detail_if d s y)
more_yes d s k f x y e h a = rw (h, ← e) a

pub more_no : (d : Bool) (s : List ℕ) (k : Cursor) (force : Option Bearer) → d ≡ false → Pushes k k (detail_if d s force)
more_no d s k force h = rw h (pushes_nil k)

-- ---- an event that was given
-- the first w octets are lent
pub gave_front : (self : Endpoint) (e : Event) (w : ℕ) (room f : List ℕ) (r : Answer) → Did self e (mid_of 0 (w - 0) room) f r → DidFront self e w room (put_mid 0 (w - 0) room f) r
gave_front self e w room f r h =
    let z : w - 0 ≡ w = omega arith in
    record { front = f; did = rw z at h; whole = rw z }

-- what an answer writes is at the front
front_octets : (a : told.Reply) (w : ℕ) (room : List ℕ) → take (written_by (reply_for a)) (out_for a (take w room) ++ drop w room) ≡ reply_octets a
unfolding written_by reply_octets
front_octets (refusal e) w room = refl
front_octets (done s n o d) w room = rw append_assoc (take_at o _ (length o) refl)

module _ (self : Endpoint) (event : value.Event) (m room room' : List ℕ) (k f : Cursor) (w n : ℕ) (d : Bool) (r : Answer) where
  given : DidFront self (event_by event m) w room room' r → w ≤ length room → Pushes k f (answer_line d n event self.state r room')
      → Does (config_inside self.config) (verdict_effect d (configuration_by self.config) (book_of self) n (some (event_by event m)) room w (verdict_on (configuration_by self.config) (book_of self) (some (event_by event m)) w)) room' k f (Running r.endpoint n)
  unfolding verdict_effect verdict_on trace_by inside_by
  given h l a =
      let c = configuration_by self.config in
      let e = length-take-le w room l in
      let v = rule c (book_of self) (record { event = event_by event m; room = w }) in
      let b : Did self (event_by event m) (take w room) h.front r = h.did in
      let g : Gave self v (take w room) h.front r = rw e at b in
      let z : room' ≡ out_for (replied (book_of self) v) (take w room) ++ drop w room = h.whole ∙ ap (λ (x : List ℕ). x ++ drop w room) g.out in
      let o : take (written_by r.reply) room' ≡ reply_octets (replied (book_of self) v) = rw (g.reply, z) (front_octets (replied (book_of self) v) w room) in
      record {
        session = rw (g.config, g.book);
        printed = rw (line_same d n event m) (rw (← state_is self, o, g.book, g.reply) at a);
        lent = z;
        inside = λ b. rw g.config b;
      }

  -- as many octets are lent as are wanted, or all of them
  pub handled_is : (wanted : ℕ) → DidFront self (event_by event m) w room room' r → w ≡ min wanted (length room) → Pushes k f (answer_line d n event self.state r room')
      → Does (config_inside self.config) (effect_on d self n (some (event_by event m)) room wanted) room' k f (Running r.endpoint n)
  handled_is wanted h l a = rw (← l) (given h (omega arith) a)

-- ---- a line that is no event
pub passed_is : (self : Endpoint) (k g f : Cursor) (n : ℕ) (d : Bool)
    → Pushes g f (detail_if d [] (settled (book_of self)) ++ (lf ∷ [])) → Pushes k g (event_text n none self.state (Err (refusal_number BadLine)))
    → Passes d self n k f (Running self n)
unfolding verdict_effect verdict_on trace_by inside_by reply_octets event_line numbered
passed_is self k g f n d b a room w =
    record {
      session = refl;
      printed = rw (state_is self) (pushes_then a b);
      lent = sym (take-append-drop (min w (length room)) room);
      inside = λ b. b;
    }

-- ---- reading a line: f is the buffer, which then has the octets of a message
pub message_ready : (t l f : List ℕ) (u : Bool) (r : code.Option Ready) → ReadsOctets t l u f → length t / 2 ≤ length l
    → r ≡ then_some u (record { event = Message; len = length t / 2 }) → ready_by f r ≡ message_by t
unfolding ready_by message_by
message_ready t l f true r p h q = let (y, e) = read_back t l f p in rw (q, y, e)
message_ready t l f false r p h q = rw (q, read_wrong t l f p h)

module _ (s f : List ℕ) (whole : Bool) where
  pub line_broken : not whole ≡ true → ready_by f None ≡ when whole (line_event s)
  unfolding ready_by
  line_broken h = rw (not-true whole h)

  module _ (h : not whole ≡ false) where
    asks : (y : code.Option Asked) → Asks s y → when whole (line_event s) ≡ asked_by s y
    asks y e = rw (not-false whole h) (sym e.is)

    pub line_none : (r : code.Option Ready) → r ≡ None → Asks s None → ready_by f r ≡ when whole (line_event s)
    unfolding ready_by asked_by
    line_none r q e = rw (q, asks None e)

    module _ (a : Asked) (e : Asks s (Some a)) where
      pub line_named : (event : value.Event) → a ≡ reading.Event event → ready_by f (Some (record { event = event; len = 0 })) ≡ when whole (line_event s)
      unfolding ready_by asked_by
      line_named event q = rw (asks (Some a) e, q)

      pub line_message : a ≡ reading.Digits → (t : List ℕ) → t ≡ drop 2 s → (r : code.Option Ready) → ready_by f r ≡ message_by t → ready_by f r ≡ when whole (line_event s)
      unfolding asked_by
      line_message q t o r p = rw (asks (Some a) e, q, ← o) p

      -- its digits fit in the buffer
      pub line_fits : a ≡ reading.Digits → (t : List ℕ) → t ≡ drop 2 s → (n : ℕ) → most_line / 2 ≤ n → length t / 2 ≤ n
      line_fits q t o n l =
          let k = e.short (ap Some q) in
          let z : length t ≡ length s - 2 = rw o (length-drop 2 s) in
          omega arith

-- ---- numbers
pub number_is : (n r : ℕ) → Fits w64 n → r ≡ min (n + 1) (2 ^ 64 - 1) → r ≡ next_number n
unfolding next_number
number_is n r w e =
    by_lt n (2 ^ 64 - 1) _
    (λ h. rw (lt-ltb n (2 ^ 64 - 1) h) (omega arith))
    (λ h. rw (le-ltb n (2 ^ 64 - 1) h) (omega arith))

-- ---- any line after the configuration: y is what it asks for
module _ (self : Endpoint) (number : ℕ) (line s f room : List ℕ) (k c : Cursor) (n : ℕ) (d whole : Bool) (p : places.Lent) (y : code.Option Ready) (r : Session)
    (e : lent_by line p ≡ lent_in d line) (q : s ≡ drop p.at line) (g : n ≡ next_number number) (is : ready_by f y ≡ when whole (line_event s)) where
  ran_as : (x : Option Event) → ready_by f y ≡ x
      → event_effect d (configuration_by self.config) (book_of self) number (line_of line whole) room ≡ effect_on d self n x room p.room
  unfolding event_effect lent_by
  ran_as x h = rw (← e, ← q, ← g, ← is, h)

  pub ran_event : (z : Ready) (m room' : List ℕ) → y ≡ Some z → m ≡ take z.len f
      → Does (config_inside self.config) (effect_on d self n (some (event_by z.event m)) room p.room) room' k c r
      → Does (config_inside self.config) (event_effect d (configuration_by self.config) (book_of self) number (line_of line whole) room) room' k c r
  unfolding ready_by
  ran_event z m room' h j x = rw (ran_as (some (event_by z.event m)) (rw (h, j))) x

  pub ran_nothing : y ≡ None → Passes d self n k c r
      → Does (config_inside self.config) (event_effect d (configuration_by self.config) (book_of self) number (line_of line whole) room) room k c r
  unfolding ready_by
  ran_nothing h x = rw (ran_as none (rw h)) (x room p.room)

-- the line of an event whose answer is given
pub answer_line_lem : (event : value.Event) (state : State) (r : Answer) (room o : List ℕ) (k g f : Cursor) (n w : ℕ) (d : Bool)
    → Pushes g f (detail_if d o (settled (book_of r.endpoint)) ++ (lf ∷ [])) → Pushes k g (event_text n (some (event_by event [])) state (numbered r.reply))
    → o ≡ take w room → w ≡ written_by r.reply → Pushes k f (answer_line d n event state r room)
unfolding event_line
answer_line_lem event state r room o k g f n w d b a p q = rw (← q, ← p) (pushes_then a b)
