-- The rules of "One endpoint" meet `Laws` of `book`, whatever the reader and the judge answer: neither is unfolded. Verdicts are told
-- apart by their kind and by the bearer that they settle.
-- Assumes nothing.
use Prim.Native.Nat.{ℕ, ◌≤◌, ◌<◌}
use mathlib.Core.Path.{◌≡◌, refl, ap}
use mathlib.Core.Bool.{Bool, true, false, cond}
use mathlib.Core.List.{List}
use mathlib.Core.Option.{Option, none, some, none-ne-some}
use lib.Dec.{ltb, lit≤}
use native.Mathlib.Omega.{arith}
use Rattle.octets.specs.declared.Refusal.TheVariants.{BufferTooShort, OutOfRange}
use Rattle.book.specs.declared.Side.{Side}
use Rattle.book.specs.declared.Side.TheVariants.{I, R}
use Rattle.book.specs.Book.{idle, await_setup, up, await_change, ignores, settled}
use Rattle.book.specs.Book.{refused, discarded, opened, agreed, failed, released, request_confused, request_right, request_wrong}
use Rattle.book.proofs.Struck.{Laws}
use Rattle.media.specs.Stream.{Stream}
use Rattle.ipbcp.specs.Writing as writing
use Rattle.ipbcp.specs.Writing.{message_octets}
use Rattle.configuration.specs.Configuration.{Configuration}
use Rattle.bearer.specs.Bearer.{Bearer}
use Rattle.bearer.specs.Hearing as hears
use Rattle.bearer.specs.Hearing.{Heard, heard}
use Rattle.bearer.specs.Judging.{commanded, right_request, granted, accepted_for, right_accepted}
use Rattle.endpoint.specs.Rule.{Book, Verdict, Event, set_up, change, release, t1, t2, message, Given, if_writable, command_verdict, answer_confused, answer_rejected, request_verdict, accepted_verdict, message_verdict, event_verdict, rule, exchange_by, exchanged_in, exchanged, least_room}

-- which verdict it is: 0 opened, 1 released, 2 accepted, 3 agreed, 4 another
abbrev which : Verdict → ℕ
which (refused n) = 4
which discarded = 4
which (opened q o) = 0
which (agreed b) = 3
which failed = 4
which released = 1
which (request_confused o) = 4
which (request_right b o) = 2
which (request_wrong o) = 4

-- the bearer that a verdict settles
abbrev settles : Verdict → Option Bearer
settles (refused n) = none
settles discarded = none
settles (opened q o) = none
settles (agreed b) = some b
settles failed = none
settles released = none
settles (request_confused o) = none
settles (request_right b o) = some b
settles (request_wrong o) = none

-- two verdicts of different kinds are not equal
apart : (v w : Verdict) (n : ℕ) → v ≡ w → n ≤ which v → which w < n → ⊥
apart v w n e p q = omega (arith, ap which e)

-- what holds of both verdicts holds of the one that a test picks
pub either : (P : Verdict → Type 0) (t : Bool) (v w : Verdict) → P v → P w → P (cond t v w)
either P true v w p q = p
either P false v w p q = q

-- what holds of number 5, and of the verdict with any octets, holds of a message that is written
pub if_writable_all : (P : Verdict → Type 0) (o : Option (List ℕ)) (v : List ℕ → Verdict) → P (refused OutOfRange) → ((x : List ℕ) → P (v x)) → P (if_writable o v)
if_writable_all P none v p q = p
if_writable_all P (some o) v p q = q o

module _ (c : Configuration) where
  -- ---- which verdicts a message can get
  answer_rejected_which : 2 ≤ which (answer_rejected c)
  answer_rejected_which = if_writable_all (λ v. 2 ≤ which v) (message_octets c.own writing.rejected_content) (λ o. request_wrong o) (lit≤ tt) (λ o. lit≤ tt)

  request_verdict_which : (f d : Option Bearer) → 2 ≤ which (request_verdict c f d)
  request_verdict_which f none = answer_rejected_which
  request_verdict_which f (some d) =
      either (λ v. 2 ≤ which v) (right_request c f d) _ _
      (if_writable_all (λ v. 2 ≤ which v) (message_octets c.own (writing.accepted_content (accepted_for c d))) (λ o. request_right (granted c d) o) (lit≤ tt) (λ o. lit≤ tt))
      answer_rejected_which

  accepted_verdict_which : (f : Option Bearer) (q : Stream) (d : Option Bearer) → 3 ≤ which (accepted_verdict c f q d)
  accepted_verdict_which f q none = lit≤ tt
  accepted_verdict_which f q (some d) = either (λ v. 3 ≤ which v) (right_accepted c f q d) _ _ (lit≤ tt) (lit≤ tt)

  answer_confused_which : 3 ≤ which (answer_confused c)
  answer_confused_which = if_writable_all (λ v. 3 ≤ which v) (message_octets c.own writing.confused_content) (λ o. request_confused o) (lit≤ tt) (λ o. lit≤ tt)

  -- where Requests are discarded, no message is accepted
  deaf_which : (k : Book) → ignores k ≡ true → (h : Heard) → 3 ≤ which (message_verdict c k h)
  deaf_which k e hears.nothing_heard = lit≤ tt
  deaf_which k e hears.other_version_heard = rw e (lit≤ tt)
  deaf_which k e (hears.request_heard d) = rw e (lit≤ tt)
  deaf_which idle e (hears.accepted_heard d) = lit≤ tt
  deaf_which (await_setup q) e (hears.accepted_heard d) = accepted_verdict_which none q d
  deaf_which (up s b) e (hears.accepted_heard d) = lit≤ tt
  deaf_which (await_change s b q) e (hears.accepted_heard d) = accepted_verdict_which (some b) q d
  deaf_which idle e hears.decline_heard = lit≤ tt
  deaf_which (await_setup q) e hears.decline_heard = lit≤ tt
  deaf_which (up s b) e hears.decline_heard = lit≤ tt
  deaf_which (await_change s b q) e hears.decline_heard = lit≤ tt

  message_verdict_which : (k : Book) (h : Heard) → 2 ≤ which (message_verdict c k h)
  message_verdict_which k hears.nothing_heard = lit≤ tt
  message_verdict_which k hears.other_version_heard = either (λ v. 2 ≤ which v) (ignores k) _ _ (lit≤ tt) (omega (arith, answer_confused_which))
  message_verdict_which k (hears.request_heard d) = either (λ v. 2 ≤ which v) (ignores k) _ _ (lit≤ tt) (request_verdict_which (settled k) d)
  message_verdict_which idle (hears.accepted_heard d) = lit≤ tt
  message_verdict_which (await_setup q) (hears.accepted_heard d) = omega (arith, accepted_verdict_which none q d)
  message_verdict_which (up s b) (hears.accepted_heard d) = lit≤ tt
  message_verdict_which (await_change s b q) (hears.accepted_heard d) = omega (arith, accepted_verdict_which (some b) q d)
  message_verdict_which idle hears.decline_heard = lit≤ tt
  message_verdict_which (await_setup q) hears.decline_heard = lit≤ tt
  message_verdict_which (up s b) hears.decline_heard = lit≤ tt
  message_verdict_which (await_change s b q) hears.decline_heard = lit≤ tt

  -- ---- while a Request is open
  -- no command is taken
  setup_which : (q : Stream) (e : Event) → 1 ≤ which (event_verdict c (await_setup q) e)
  setup_which q (set_up n p t) = lit≤ tt
  setup_which q (change n p t) = lit≤ tt
  setup_which q release = lit≤ tt
  setup_which q t1 = lit≤ tt
  setup_which q t2 = lit≤ tt
  setup_which q (message m) = omega (arith, message_verdict_which (await_setup q) (heard m))

  change_which : (s : Side) (b : Bearer) (q : Stream) (e : Event) → 1 ≤ which (event_verdict c (await_change s b q) e)
  change_which s b q (set_up n p t) = lit≤ tt
  change_which s b q (change n p t) = lit≤ tt
  change_which s b q release = lit≤ tt
  change_which s b q t1 = lit≤ tt
  change_which s b q t2 = lit≤ tt
  change_which s b q (message m) = omega (arith, message_verdict_which (await_change s b q) (heard m))

  -- no Request is accepted while a set-up is awaited
  setup_no_accepted : (q : Stream) (e : Event) (a : Bearer) (o : List ℕ) → event_verdict c (await_setup q) e ≡ request_right a o → ⊥
  setup_no_accepted q (set_up n p t) a o h = omega (arith, ap which h)
  setup_no_accepted q (change n p t) a o h = omega (arith, ap which h)
  setup_no_accepted q release a o h = omega (arith, ap which h)
  setup_no_accepted q t1 a o h = omega (arith, ap which h)
  setup_no_accepted q t2 a o h = omega (arith, ap which h)
  setup_no_accepted q (message m) a o h = apart _ _ 3 h (deaf_which (await_setup q) refl (heard m)) (lit≤ tt)

  -- a release does not look at an open change
  released_same : (s : Side) (b : Bearer) (q : Stream) (e : Event) → event_verdict c (await_change s b q) e ≡ released → event_verdict c (up s b) e ≡ released
  released_same s b q (set_up n p t) h = h
  released_same s b q (change n p t) h = absurd (omega (arith, ap which h))
  released_same s b q release h = h
  released_same s b q t1 h = h
  released_same s b q t2 h = absurd (omega (arith, ap which h))
  released_same s b q (message m) h = absurd (apart _ _ 2 h (message_verdict_which (await_change s b q) (heard m)) (lit≤ tt))

  -- a Request that is accepted during a change of ours is accepted in up too
  message_verdict_same : (s : Side) (b : Bearer) (q : Stream) (m : Heard) (a : Bearer) (o : List ℕ)
      → message_verdict c (await_change s b q) m ≡ request_right a o → message_verdict c (up s b) m ≡ request_right a o
  message_verdict_same I b q m a o h = absurd (apart _ _ 3 h (deaf_which (await_change I b q) refl m) (lit≤ tt))
  message_verdict_same R b q hears.nothing_heard a o h = h
  message_verdict_same R b q hears.other_version_heard a o h = h
  message_verdict_same R b q (hears.request_heard d) a o h = h
  message_verdict_same R b q (hears.accepted_heard d) a o h = absurd (apart _ _ 3 h (accepted_verdict_which (some b) q d) (lit≤ tt))
  message_verdict_same R b q hears.decline_heard a o h = absurd (omega (arith, ap which h))

  accepted_same : (s : Side) (b : Bearer) (q : Stream) (e : Event) (a : Bearer) (o : List ℕ)
      → event_verdict c (await_change s b q) e ≡ request_right a o → event_verdict c (up s b) e ≡ request_right a o
  accepted_same s b q (set_up n p t) a o h = h
  accepted_same s b q (change n p t) a o h = absurd (omega (arith, ap which h))
  accepted_same s b q release a o h = h
  accepted_same s b q t1 a o h = h
  accepted_same s b q t2 a o h = absurd (omega (arith, ap which h))
  accepted_same s b q (message m) a o h = message_verdict_same s b q (heard m) a o h

  -- ---- an exchange settles the bearer that its message names
  -- v settles nothing but x
  abbrev Names : Option Bearer → Verdict → Type 0
  Names x v = (b : Bearer) → settles v ≡ some b → x ≡ some b

  silent : (x : Option Bearer) → Names x discarded
  silent x b h = absurd (none-ne-some b h)

  request_verdict_names : (f d : Option Bearer) → Names (exchange_by c (hears.request_heard d)) (request_verdict c f d)
  request_verdict_names f none =
      if_writable_all (Names none) (message_octets c.own writing.rejected_content) (λ o. request_wrong o) (silent none) (λ o. silent none)
  request_verdict_names f (some d) =
      either (Names (some (granted c d))) (right_request c f d) _ _
      (if_writable_all (Names (some (granted c d))) (message_octets c.own (writing.accepted_content (accepted_for c d))) (λ o. request_right (granted c d) o) (silent (some (granted c d))) (λ o b h. h))
      (if_writable_all (Names (some (granted c d))) (message_octets c.own writing.rejected_content) (λ o. request_wrong o) (silent (some (granted c d))) (λ o. silent (some (granted c d))))

  accepted_verdict_names : (f : Option Bearer) (q : Stream) (d : Option Bearer) → Names d (accepted_verdict c f q d)
  accepted_verdict_names f q none = silent none
  accepted_verdict_names f q (some d) = either (Names (some d)) (right_accepted c f q d) _ _ (λ b h. h) (silent (some d))

  message_verdict_names : (k : Book) (h : Heard) → Names (exchange_by c h) (message_verdict c k h)
  message_verdict_names k hears.nothing_heard = silent none
  message_verdict_names k hears.other_version_heard =
      either (Names none) (ignores k) _ _ (silent none) (if_writable_all (Names none) (message_octets c.own writing.confused_content) (λ o. request_confused o) (silent none) (λ o. silent none))
  message_verdict_names k (hears.request_heard d) =
      either (Names (exchange_by c (hears.request_heard d))) (ignores k) _ _ (silent (exchange_by c (hears.request_heard d))) (request_verdict_names (settled k) d)
  message_verdict_names idle (hears.accepted_heard d) = silent d
  message_verdict_names (await_setup q) (hears.accepted_heard d) = accepted_verdict_names none q d
  message_verdict_names (up s b) (hears.accepted_heard d) = silent d
  message_verdict_names (await_change s b q) (hears.accepted_heard d) = accepted_verdict_names (some b) q d
  message_verdict_names idle hears.decline_heard = silent none
  message_verdict_names (await_setup q) hears.decline_heard = silent none
  message_verdict_names (up s b) hears.decline_heard = silent none
  message_verdict_names (await_change s b q) hears.decline_heard = silent none

  command_verdict_names : (q : Option Stream) → Names none (command_verdict c q)
  command_verdict_names none = silent none
  command_verdict_names (some q) =
      if_writable_all (Names none) (message_octets c.own (writing.request_content q)) (λ o. opened q o) (silent none) (λ o. silent none)

  event_verdict_names : (k : Book) (e : Event) → Names (exchanged_in c e) (event_verdict c k e)
  event_verdict_names idle (set_up n p t) = command_verdict_names (commanded c n p t)
  event_verdict_names (await_setup q) (set_up n p t) = silent none
  event_verdict_names (up s b) (set_up n p t) = silent none
  event_verdict_names (await_change s b q) (set_up n p t) = silent none
  event_verdict_names idle (change n p t) = silent none
  event_verdict_names (await_setup q) (change n p t) = silent none
  event_verdict_names (up s b) (change n p t) = command_verdict_names (commanded c n p t)
  event_verdict_names (await_change s b q) (change n p t) = silent none
  event_verdict_names idle release = silent none
  event_verdict_names (await_setup q) release = silent none
  event_verdict_names (up s b) release = silent none
  event_verdict_names (await_change s b q) release = silent none
  event_verdict_names idle t1 = silent none
  event_verdict_names (await_setup q) t1 = silent none
  event_verdict_names (up s b) t1 = silent none
  event_verdict_names (await_change s b q) t1 = silent none
  event_verdict_names idle t2 = silent none
  event_verdict_names (await_setup q) t2 = silent none
  event_verdict_names (up s b) t2 = silent none
  event_verdict_names (await_change s b q) t2 = silent none
  event_verdict_names k (message m) = message_verdict_names k (heard m)

  -- ---- number 4 comes first, whatever the book
  kept_room : (t : Bool) (v w x : Verdict) → (v ≡ x → w ≡ x) → cond t (refused BufferTooShort) v ≡ x → cond t (refused BufferTooShort) w ≡ x
  kept_room true v w x f h = h
  kept_room false v w x f h = f h

  no_room : (t : Bool) (v x : Verdict) → (refused BufferTooShort ≡ x → ⊥) → (v ≡ x → ⊥) → cond t (refused BufferTooShort) v ≡ x → ⊥
  no_room true v x f g h = f h
  no_room false v x f g h = g h

  room_which : (n : ℕ) (t : Bool) (v : Verdict) → n ≤ 4 → n ≤ which v → n ≤ which (cond t (refused BufferTooShort) v)
  room_which n t v p q = either (λ w. n ≤ which w) t (refused BufferTooShort) v p q

  room_names : (k : Book) (g : Given) → Names (exchanged c g) (rule c k g)
  unfolding rule
  room_names k g = either (Names (exchanged c g)) (ltb g.room least_room) _ _ (silent (exchanged c g)) (event_verdict_names k g.event)

  pub rule_laws : Laws (rule c) (exchanged c)
  unfolding rule
  rule_laws =
      record {
        opened_setup = λ p g q o h. apart _ _ 1 h (room_which 1 (ltb g.room least_room) _ (lit≤ tt) (setup_which p g.event)) (lit≤ tt);
        opened_change = λ s b p g q o h. apart _ _ 1 h (room_which 1 (ltb g.room least_room) _ (lit≤ tt) (change_which s b p g.event)) (lit≤ tt);
        released_change = λ s b p g h. kept_room (ltb g.room least_room) _ _ _ (released_same s b p g.event) h;
        accepted_setup = λ p g a o h. no_room (ltb g.room least_room) _ _ (λ x. omega (arith, ap which x)) (setup_no_accepted p g.event a o) h;
        accepted_change = λ s b p g a o h. kept_room (ltb g.room least_room) _ _ _ (accepted_same s b p g.event a o) h;
        agreed_names = λ k g b h. room_names k g b (ap settles h);
        accepted_names = λ k g b o h. room_names k g b (ap settles h);
      }
