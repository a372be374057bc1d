-- What an endpoint does with a message, by the results of the code's tests: each law takes these and gives the rules' verdict.
-- Assumes nothing.
use Prim.Native.Nat.{ℕ, ◌≤◌, ◌<◌}
use mathlib.Core.Path.{◌≡◌, refl, sym, ◌∙◌, ap, subst}
use mathlib.Core.Bool.{Bool, true, false, cond, false≢true}
use mathlib.Core.List.{List}
use mathlib.Core.Option.{Option, none, some, map}
use lib.ListN.{length}
use native.Mathlib.Omega.{arith}
use Rattle.book.specs.declared.State.{State}
use Rattle.book.specs.declared.State.TheVariants.{Idle, AwaitSetup, Up, AwaitChange}
use Rattle.book.specs.declared.Side.{Side}
use Rattle.book.specs.Book.{refused, discarded, agreed, failed, request_right, settled, awaited, ignores}
use Rattle.book.specs.States.{awaits_at, ignores_at}
use Rattle.std.specs.Prelude as code
use Rattle.std.specs.Prelude.{Ok, Err, IfSome}
use Rattle.octets.specs.declared.Refusal.{Refusal}
use Rattle.octets.specs.declared.Refusal.TheVariants.{BufferTooShort}
use Rattle.octets.specs.Puts.{Puts}
use Rattle.media.specs.declared.Stream.{Stream as Places}
use Rattle.media.specs.Stream.{Stream}
use Rattle.media.specs.Meaning.{stream_by, stream_in}
use Rattle.ipbcp.specs.declared.Body.TheVariants as asked_for
use Rattle.ipbcp.specs.declared.Description.{Description}
use Rattle.ipbcp.specs.Writing as writing
use Rattle.ipbcp.specs.Writing.{message_octets_in}
use Rattle.ipbcp.specs.Meaning.{content_in}
use Rattle.configuration.specs.Meaning.{configuration_by}
use Rattle.bearer.specs.declared.Bearer as held
use Rattle.bearer.specs.declared.Heard as took
use Rattle.bearer.specs.declared.Heard.TheVariants as is
use Rattle.bearer.specs.Bearer.{Bearer}
use Rattle.bearer.specs.Hearing as hears
use Rattle.bearer.specs.Hearing.{Heard, heard}
use Rattle.bearer.specs.Judging.{nearest, restated, granted, accepted_for, right_accepted}
use Rattle.bearer.specs.Meaning.{request_by, bearer_by, bearer_inside, named_by, named_if, heard_in, bearer_as, places_as}
use Rattle.bearer.proofs.HeldLaws.{stream_in_by, restated_by, held_names, held_inside, heard_short, accepted_short}
use Rattle.endpoint.specs.declared.Endpoint.{Endpoint}
use Rattle.endpoint.specs.declared.Answer.{Answer}
use Rattle.endpoint.specs.Rule.{Verdict, Event, answer_accepted, accepted_verdict, if_awaited, message_verdict, least_room}
use Rattle.endpoint.specs.Step.{book_by, book_of, Gave, Did}
use Rattle.endpoint.specs.Private.{Silent, Says, Readable, Answerable}
use Rattle.endpoint.proofs.VerdictLaws.{ignores_by}
use Rattle.endpoint.proofs.EventLaws.{did, in_room_short, in_room_long, if_writable_octets, if_writable_refused}

-- ---- the open Request, read on the state
awaited_yes : (st : State) (s : Side) (q : Stream) (b : Bearer) → awaits_at st ≡ true → awaited (book_by st s q b) ≡ some q
awaited_yes Idle s q b h = absurd (false≢true h)
awaited_yes AwaitSetup s q b h = refl
awaited_yes Up s q b h = absurd (false≢true h)
awaited_yes AwaitChange s q b h = refl

awaited_no : (st : State) (s : Side) (q : Stream) (b : Bearer) → awaits_at st ≡ false → awaited (book_by st s q b) ≡ none
awaited_no Idle s q b h = refl
awaited_no AwaitSetup s q b h = absurd (false≢true (sym h))
awaited_no Up s q b h = refl
awaited_no AwaitChange s q b h = absurd (false≢true (sym h))

-- ---- what is held of a message lies inside: as it was named, or with another port and packet time
pub kept_inside : (d : Description) (m : List ℕ) (b : held.Bearer) → Readable m d → b ≡ bearer_as d m → bearer_inside b ≡ true
kept_inside d m b k e = rw e (held_inside m d (stream_by m d.stream) k.inside k.short)

pub kept_restated : (d : Description) (u : Places) (m xs : List ℕ) (b : held.Bearer) (port ptime : ℕ) → Answerable m d xs → u ≡ places_as port ptime d.stream
    → b ≡ bearer_as (record { address = d.address; stream = u }) m → bearer_inside b ≡ true
kept_restated d u m xs b port ptime k p e =
    let r = k.readable in
    rw (e, p)
    (held_inside m (record { address = d.address; stream = places_as port ptime d.stream }) (restated port ptime (stream_by m d.stream))
    (restated_by m d.stream (stream_by m d.stream) port ptime r.inside) r.short)

module _ (self : Endpoint) where
  -- ---- a peer's Request: discarded, or given the verdict v
  module _ (t : Bool) (p : t ≡ ignores_at self.state self.side) (v : Verdict) where
    ignored : t ≡ ignores (book_of self)
    ignored = p ∙ ignores_by self.state self.side (request_by self.request) (bearer_by self.bearer)

    pub heard_ignored : (xs : List ℕ) (r : Answer) → t ≡ true → Silent self discarded r → Gave self (cond (ignores (book_of self)) discarded v) xs xs r
    heard_ignored xs r q g = subst (λ (b : Bool). Gave self (cond b discarded v) xs xs r) (sym q ∙ ignored) (g xs)

  -- ---- an answer to our Request: discarded, or given the verdict v
  module _ (t : Bool) (p : t ≡ awaits_at self.state) (v : Stream → Verdict) where
    pub heard_unawaited : (r : Answer) → t ≡ false → Silent self discarded r → Silent self (if_awaited (awaited (book_of self)) v) r
    heard_unawaited r q g xs =
        subst (λ (o : Option Stream). Gave self (if_awaited o v) xs xs r)
        (sym (awaited_no self.state self.side (request_by self.request) (bearer_by self.bearer) (sym p ∙ q))) (g xs)

    heard_awaited : (r : Answer) → t ≡ true → Silent self (v (request_by self.request)) r → Silent self (if_awaited (awaited (book_of self)) v) r
    heard_awaited r q g xs =
        subst (λ (o : Option Stream). Gave self (if_awaited o v) xs xs r)
        (sym (awaited_yes self.state self.side (request_by self.request) (bearer_by self.bearer) (sym p ∙ q))) (g xs)

  -- ---- an Accepted that says o, judged by the bearer f that is in force
  module _ (m : List ℕ) (o : code.Option Description) where
    module _ (d : Description) (p : o ≡ code.Some d) (f : Option Bearer) (h : f ≡ settled (book_of self)) (t : Bool) where
      module _ (e : t ≡ right_accepted (configuration_by self.config) f (request_by self.request) (named_by m d)) (r : Answer) where
        taken_right : t ≡ true → Silent self (agreed (named_by m d)) r
            → Silent self (accepted_verdict (configuration_by self.config) (settled (book_of self)) (request_by self.request) (named_if m o)) r
        taken_right q g xs = rw (p, ← h, ← e, q) (g xs)

        taken_wrong : t ≡ false → Silent self failed r
            → Silent self (accepted_verdict (configuration_by self.config) (settled (book_of self)) (request_by self.request) (named_if m o)) r
        taken_wrong q g xs = rw (p, ← h, ← e, q) (g xs)

    taken_none : (r : Answer) → o ≡ code.None → Silent self failed r
        → Silent self (accepted_verdict (configuration_by self.config) (settled (book_of self)) (request_by self.request) (named_if m o)) r
    taken_none r p g xs = rw p (g xs)

  -- the bearer that is held for an Accepted is the one that it names
  agreed_held : (d : Description) (m : List ℕ) (b : held.Bearer) (r : Answer) → Readable m d → b ≡ bearer_as d m → Silent self (agreed (bearer_by b)) r → Silent self (agreed (named_by m d)) r
  unfolding named_by
  agreed_held d m b r k e g =
      subst (λ (x : Bearer). Silent self (agreed x) r) (ap bearer_by e ∙ held_names m d (stream_by m d.stream) k.inside k.short) g

  -- ---- an Accepted that says o, if an answer is awaited
  module _ (w : Bool) (a : w ≡ awaits_at self.state) (yes : w ≡ true) (m : List ℕ) (o : code.Option Description) (r : Answer) where
    pub accepted_none : o ≡ code.None → Silent self failed r → Silent self (message_verdict (configuration_by self.config) (book_of self) (hears.accepted_heard (named_if m o))) r
    accepted_none p g = heard_awaited w a _ r yes (taken_none m o r p g)

    module _ (d : Description) (p : o ≡ code.Some d) (f : Option Bearer) (h : f ≡ settled (book_of self)) (t : Bool)
        (e : t ≡ right_accepted (configuration_by self.config) f (request_by self.request) (named_by m d)) where
      pub accepted_wrong : t ≡ false → Silent self failed r → Silent self (message_verdict (configuration_by self.config) (book_of self) (hears.accepted_heard (named_if m o))) r
      accepted_wrong q g = heard_awaited w a _ r yes (taken_wrong m o d p f h t e r q g)

      pub accepted_right : t ≡ true → IfSome o (λ x. Readable m x) → (b : held.Bearer) → b ≡ bearer_as d m → Silent self (agreed (bearer_by b)) r
          → Silent self (message_verdict (configuration_by self.config) (book_of self) (hears.accepted_heard (named_if m o))) r
      accepted_right q k b n g =
          heard_awaited w a _ r yes (taken_right m o d p f h t e r q (agreed_held d m b r (subst (λ x. IfSome x (λ y. Readable m y)) p k) n g))

  -- ---- our Accepted: its content, and the bearer that it puts in force
  module _ (d : Description) (m xs : List ℕ) (k : Answerable m d xs) (ptime : ℕ) (e : ptime ≡ nearest (configuration_by self.config) d.stream.ptime) where
    answer_content : (q : Places) → q ≡ places_as self.config.port ptime d.stream
        → content_in m (asked_for.Accepted q) ≡ some (writing.accepted_content (accepted_for (configuration_by self.config) (named_by m d)))
    unfolding content_in accepted_for named_by configuration_by stream_by
    answer_content q p =
        rw (p, e, restated_by m d.stream (stream_by m d.stream) self.config.port (nearest (configuration_by self.config) d.stream.ptime) k.readable.inside)

    granted_held : (u : Places) (b : held.Bearer) → u ≡ places_as d.stream.port ptime d.stream → b ≡ bearer_as (record { address = d.address; stream = u }) m
        → bearer_by b ≡ granted (configuration_by self.config) (named_by m d)
    unfolding granted named_by stream_by
    granted_held u b p q =
        ap bearer_by (q ∙ ap (λ (x : Places). bearer_as (record { address = d.address; stream = x }) m) (p ∙ ap (λ (n : ℕ). places_as d.stream.port n d.stream) e))
        ∙ held_names m (record { address = d.address; stream = places_as d.stream.port (nearest (configuration_by self.config) d.stream.ptime) d.stream })
        (restated d.stream.port (nearest (configuration_by self.config) d.stream.ptime) (stream_by m d.stream))
        (restated_by m d.stream (stream_by m d.stream) d.stream.port (nearest (configuration_by self.config) d.stream.ptime) k.readable.inside) k.readable.short

    module _ (q : Places) (at : q ≡ places_as self.config.port ptime d.stream) (ys : List ℕ) (p : code.Result ℕ Refusal)
        (puts : Puts (message_octets_in self.config.own (content_in m (asked_for.Accepted q))) xs p ys) where
      pub accept_octets : (u : Places) (b : held.Bearer) (n : ℕ) (r : Answer) → u ≡ places_as d.stream.port ptime d.stream
          → b ≡ bearer_as (record { address = d.address; stream = u }) m → p ≡ Ok n → Says self (λ o. request_right (bearer_by b) o) n r
          → Gave self (answer_accepted (configuration_by self.config) (named_by m d)) xs ys r
      unfolding configuration_by
      accept_octets u b n r pu pb pn g =
          if_writable_octets self self.config.own (writing.accepted_content (accepted_for (configuration_by self.config) (named_by m d)))
          (λ o. request_right (granted (configuration_by self.config) (named_by m d)) o) xs ys p (content_in m (asked_for.Accepted q)) (answer_content q at) puts n r pn
          (subst (λ (x : Bearer). Says self (λ o. request_right x o) n r) (granted_held u b pu pb) g)

      pub accept_refused : (f : Refusal) (r : Answer) → p ≡ Err f → Silent self (refused f) r → Gave self (answer_accepted (configuration_by self.config) (named_by m d)) xs ys r
      unfolding configuration_by
      accept_refused f r pf g =
          if_writable_refused self self.config.own (writing.accepted_content (accepted_for (configuration_by self.config) (named_by m d)))
          (λ o. request_right (granted (configuration_by self.config) (named_by m d)) o) xs ys p (content_in m (asked_for.Accepted q)) (answer_content q at) puts f r k.room pf g

  -- ---- a message
  pub did_short : (m xs : List ℕ) (r : Answer) → length xs < least_room → Silent self (refused BufferTooShort) r → Did self (Event.message m) xs xs r
  did_short m xs r l g = did self (Event.message m) _ xs xs r refl (in_room_short self _ xs r l g)

  -- ---- what was heard of m
  module _ (m : List ℕ) (z : took.Heard) (h : heard_in m z ≡ some (heard m)) where
    -- a message that is heard as such gets the rules' verdict on that
    did_heard : (xs ys : List ℕ) (r : Answer) (x : Heard) → least_room ≤ length xs → heard m ≡ x → Gave self (message_verdict (configuration_by self.config) (book_of self) x) xs ys r
        → Did self (Event.message m) xs ys r
    did_heard xs ys r x l e g =
        did self (Event.message m) (message_verdict (configuration_by self.config) (book_of self) x) xs ys r
        (ap (λ (y : Heard). message_verdict (configuration_by self.config) (book_of self) y) e)
        (in_room_long self (message_verdict (configuration_by self.config) (book_of self) x) xs ys r l g)

    -- which it is, by the code's answer
    heard_as : (y : took.Heard) (x : Heard) → z ≡ y → heard_in m y ≡ some x → heard m ≡ x
    heard_as y x p q = let e : some (heard m) ≡ some x = sym h ∙ ap (heard_in m) p ∙ q in cc

    heard_unreadable : z ≡ is.Unreadable → heard m ≡ hears.nothing_heard
    unfolding heard_in
    heard_unreadable p = heard_as is.Unreadable hears.nothing_heard p refl

    heard_other : z ≡ is.OtherRequest → heard m ≡ hears.other_version_heard
    unfolding heard_in
    heard_other p = heard_as is.OtherRequest hears.other_version_heard p refl

    heard_declined : z ≡ is.Declined → heard m ≡ hears.decline_heard
    unfolding heard_in
    heard_declined p = heard_as is.Declined hears.decline_heard p refl

    -- a stream that is answered with lies inside the message
    inside_named : (s : Places) (o : Option Stream) → stream_in m s ≡ o → (f : Stream → Heard) → map f o ≡ some (heard m)
        → (stream_in m s ≡ some (stream_by m s)) × (heard m ≡ f (stream_by m s))
    inside_named s none e f q = let z : ◌≡◌ {A = ℕ} 0 1 = cc in absurd (omega arith)
    inside_named s (some t) e f q =
        let by = stream_in_by m s t e in
        (e ∙ ap some by, (let w : f t ≡ heard m = cc in sym w ∙ ap f by))

    heard_request : (o : code.Option Description) → z ≡ is.Request o → (heard m ≡ hears.request_heard (named_if m o)) × IfSome o (λ x. Readable m x)
    unfolding heard_in named_by
    heard_request code.None p = (heard_as (is.Request code.None) (hears.request_heard none) p refl, tt)
    heard_request (code.Some d) p =
        let (i, e) = inside_named d.stream (stream_in m d.stream) refl (λ t. hears.request_heard (some (record { address = d.address; stream = t }))) (sym (ap (heard_in m) p) ∙ h) in
        (e, record { short = heard_short m (named_by m d) e; inside = i })

    heard_accepted : (o : code.Option Description) → z ≡ is.Accepted o → (heard m ≡ hears.accepted_heard (named_if m o)) × IfSome o (λ x. Readable m x)
    unfolding heard_in named_by
    heard_accepted code.None p = (heard_as (is.Accepted code.None) (hears.accepted_heard none) p refl, tt)
    heard_accepted (code.Some d) p =
        let (i, e) = inside_named d.stream (stream_in m d.stream) refl (λ t. hears.accepted_heard (some (record { address = d.address; stream = t }))) (sym (ap (heard_in m) p) ∙ h) in
        (e, record { short = accepted_short m (named_by m d) e; inside = i })

    pub request_readable : (o : code.Option Description) → z ≡ is.Request o → IfSome o (λ x. Readable m x)
    request_readable o p = (heard_request o p).1

    pub accepted_readable : (o : code.Option Description) → z ≡ is.Accepted o → IfSome o (λ x. Readable m x)
    accepted_readable o p = (heard_accepted o p).1

    -- ---- the event, by the code's answer
    module _ (xs ys : List ℕ) (r : Answer) (l : least_room ≤ length xs) where
      pub did_other : z ≡ is.OtherRequest → Gave self (message_verdict (configuration_by self.config) (book_of self) hears.other_version_heard) xs ys r → Did self (Event.message m) xs ys r
      did_other p g = did_heard xs ys r hears.other_version_heard l (heard_other p) g

      pub did_request : (o : code.Option Description) → z ≡ is.Request o
          → Gave self (message_verdict (configuration_by self.config) (book_of self) (hears.request_heard (named_if m o))) xs ys r → Did self (Event.message m) xs ys r
      did_request o p g = did_heard xs ys r (hears.request_heard (named_if m o)) l (heard_request o p).0 g

    module _ (xs : List ℕ) (r : Answer) (l : least_room ≤ length xs) where
      pub did_unreadable : z ≡ is.Unreadable → Silent self discarded r → Did self (Event.message m) xs xs r
      did_unreadable p g = did_heard xs xs r hears.nothing_heard l (heard_unreadable p) (g xs)

      pub did_accepted : (o : code.Option Description) → z ≡ is.Accepted o
          → Silent self (message_verdict (configuration_by self.config) (book_of self) (hears.accepted_heard (named_if m o))) r → Did self (Event.message m) xs xs r
      did_accepted o p g = did_heard xs xs r (hears.accepted_heard (named_if m o)) l (heard_accepted o p).0 (g xs)

      -- t is whether an answer is awaited
      pub did_declined : z ≡ is.Declined → (t : Bool) → t ≡ awaits_at self.state → Silent self (cond t failed discarded) r → Did self (Event.message m) xs xs r
      did_declined p t e g =
          did_heard xs xs r hears.decline_heard l (heard_declined p)
          (subst (λ (v : Verdict). Gave self v xs xs r) (declined_by t (sym e)) (g xs))
        where
          declined_by : (t : Bool) → awaits_at self.state ≡ t → cond t failed discarded ≡ if_awaited (awaited (book_of self)) (λ q. failed)
          declined_by true e = rw (awaited_yes self.state self.side (request_by self.request) (bearer_by self.bearer) e)
          declined_by false e = rw (awaited_no self.state self.side (request_by self.request) (bearer_by self.bearer) e)
