-- There is a run through every list of events: each verdict of the rules has an answer that meets `Did`. Reply and output are the
-- book's; the endpoint is made from the book. No verdict names a stream with more than three fmtp texts, so the texts of its stream
-- can be laid one after another in a list that the endpoint holds.
-- Assumes nothing.
use Prim.Native.Nat.{ℕ, zero, suc, ◌+◌, ◌≤◌}
use mathlib.Core.Path.{◌≡◌, refl, sym, ◌∙◌, subst}
use mathlib.Core.Bool.{Bool, true, false, ◌&&◌, cond, and-eq-true_iff}
use mathlib.Core.List.{List, [], ◌∷◌, ◌++◌, map, append_assoc, append-nil}
use mathlib.Core.Option.{Option, none, some, Option-elim}
use lib.ListN.{length, take, drop, replicate, length-append, length-drop, length-replicate}
use lib.Seq.{take_all, drop-append_seam, take-append-le, drop-append-le}
use lib.Dec.{eqb, leb, ltb, lit≤}
use native.Mathlib.Omega.{arith}
use borrow.Author.Tests.{leb-true, le-leb}
use Rattle.std.specs.Prelude.{Some, None}
use Rattle.std.specs.Prelude as code
use Rattle.octets.specs.declared.Refusal.TheVariants.{BufferTooShort}
use Rattle.octets.specs.declared.Span.{Span}
use Rattle.octets.specs.Spans.{text_of, inside}
use Rattle.media.specs.declared.Stream.{Stream as Places}
use Rattle.media.specs.Stream.{Stream}
use Rattle.media.specs.Meaning.{spans_of, texts_by, stream_by, all_in, stream_inside}
use Rattle.ipbcp.specs.declared.MessageType.TheVariants as kind
use Rattle.ipbcp.specs.declared.Head.{Head}
use Rattle.ipbcp.specs.declared.MessageType.{MessageType}
use Rattle.ipbcp.specs.Types.{head_in}
use Rattle.ipbcp.specs.Reading as reading
use Rattle.ipbcp.specs.Reading.{Reading, read_message, most_read}
use Rattle.ipbcp.specs.Writing as writing
use Rattle.ipbcp.specs.Writing.{message_octets}
use Rattle.ipbcp.proofs.WrittenLaws.{attribute_parts}
use Rattle.ipbcp.proofs.ReadRange.{read_right}
use Rattle.book.specs.declared.State.TheVariants.{Idle, Up}
use Rattle.book.specs.Book.{idle, await_setup, up, await_change, settled, awaited, ignores, moved, replied, opening, settling}
use Rattle.book.specs.Book.{refused, discarded, opened, agreed, failed, released, request_confused, request_right, request_wrong}
use Rattle.book.specs.States.{closed_state, opened_state, settled_side}
use Rattle.configuration.specs.Configuration.{Codec, Configuration, entry_in, suits, ptime_none_or_in_range}
use Rattle.configuration.specs.Meaning.{configuration_by}
use Rattle.bearer.specs.declared.Request as ours
use Rattle.bearer.specs.declared.Bearer as held
use Rattle.bearer.specs.Bearer.{Bearer}
use Rattle.bearer.specs.Hearing as hears
use Rattle.bearer.specs.Hearing.{Heard, bearer_in, heard_typed, heard_by, heard}
use Rattle.bearer.specs.Judging.{offered, commanded, right_request, restated, granted, accepted_for, right_accepted}
use Rattle.bearer.specs.Meaning.{request_by, bearer_by}
use Rattle.endpoint.specs.declared.Endpoint.{Endpoint}
use Rattle.endpoint.specs.Rule.{Book, Verdict, Event, set_up, change, release, t1, t2, message, Given, command_verdict, answer_confused, answer_rejected, request_verdict, accepted_verdict, if_awaited, message_verdict, event_verdict, rule, least_room}
use Rattle.endpoint.specs.Step.{book_of, reply_for, out_for, Unaltered}
use Rattle.endpoint.specs.Private.{Same}
use Rattle.endpoint.specs.Demand.{begun, after, HasAnswer, HasRun}
use Rattle.endpoint.proofs.VerdictLaws.{same_closed, same_opening, same_settling}
use Rattle.endpoint.proofs.Ruled.{either, if_writable_all}

-- ---- no verdict names more than three fmtp texts
abbrev Few : Stream → Type 0
Few s = length s.fmtp ≤ 3

abbrev FewNamed : Option Bearer → Type 0
FewNamed none = Unit {0}
FewNamed (some d) = Few d.stream

-- a message that is read has at most three
read_few : (m : List ℕ) → FewNamed (bearer_in (read_message m))
unfolding bearer_in
read_few m = go (read_message m) refl
  where
    go : (r : Reading) → read_message m ≡ r → FewNamed (bearer_in r)
    go (reading.refused n) e = tt
    go (reading.typed v k) e = tt
    go (reading.described k a s) e = let (_, few, _, _, _) = attribute_parts s (read_right m k a s e).1 in few

abbrev FewHeard : Heard → Type 0
FewHeard hears.nothing_heard = Unit {0}
FewHeard hears.other_version_heard = Unit {0}
FewHeard (hears.request_heard d) = FewNamed d
FewHeard (hears.accepted_heard d) = FewNamed d
FewHeard hears.decline_heard = Unit {0}

heard_either : (t : Bool) (x y : Heard) → FewHeard x → FewHeard y → FewHeard (cond t x y)
heard_either true x y p q = p
heard_either false x y p q = q

head_few : (h : code.Option Head) (r : Reading) → FewNamed (bearer_in r) → FewHeard (heard_by h r)
unfolding heard_by
head_few None r p = tt
head_few (Some h) r p = typed_few h.kind
  where
    typed_few : (k : MessageType) → FewHeard (heard_typed k h.version r)
    typed_few kind.Request = heard_either (eqb h.version 1) (hears.request_heard (bearer_in r)) hears.other_version_heard p tt
    typed_few kind.Accepted = p
    typed_few kind.Confused = tt
    typed_few kind.Rejected = tt

heard_few : (m : List ℕ) → FewHeard (heard m)
unfolding heard
heard_few m = heard_either (leb (length m) most_read) (heard_by (head_in m) (read_message m)) hears.nothing_heard (head_few (head_in m) (read_message m) (read_few m)) tt

-- a Request of ours has none
abbrev FewOffered : Option Stream → Type 0
FewOffered none = Unit {0}
FewOffered (some q) = Few q

commanded_few : (c : Configuration) (entry payload ptime : ℕ) → FewOffered (commanded c entry payload ptime)
unfolding commanded offered Option-elim
commanded_few c entry payload ptime = go (entry_in c.codecs entry)
  where
    pick : (t : Bool) (q : Stream) → Few q → FewOffered (cond t (some q) none)
    pick true q p = p
    pick false q p = tt

    go : (o : Option Codec) → FewOffered (Option-elim o none (λ k. cond (suits k payload && ptime_none_or_in_range c ptime) (some (offered c k payload ptime)) none))
    go none = tt
    go (some k) = pick (suits k payload && ptime_none_or_in_range c ptime) (offered c k payload ptime) (lit≤ tt)

abbrev FewBy : Verdict → Type 0
FewBy (refused n) = Unit {0}
FewBy discarded = Unit {0}
FewBy (opened q o) = Few q
FewBy (agreed b) = Few b.stream
FewBy failed = Unit {0}
FewBy released = Unit {0}
FewBy (request_confused o) = Unit {0}
FewBy (request_right b o) = Few b.stream
FewBy (request_wrong o) = Unit {0}

module _ (c : Configuration) where
  command_verdict_few : (q : Option Stream) → FewOffered q → FewBy (command_verdict c q)
  command_verdict_few none p = tt
  command_verdict_few (some q) p = if_writable_all FewBy (message_octets c.own (writing.request_content q)) (λ o. opened q o) tt (λ o. p)

  answer_rejected_few : FewBy (answer_rejected c)
  answer_rejected_few = if_writable_all FewBy (message_octets c.own writing.rejected_content) (λ o. request_wrong o) tt (λ o. tt)

  request_verdict_few : (f d : Option Bearer) → FewNamed d → FewBy (request_verdict c f d)
  unfolding granted restated
  request_verdict_few f none p = answer_rejected_few
  request_verdict_few f (some d) p =
      either FewBy (right_request c f d) _ _
      (if_writable_all FewBy (message_octets c.own (writing.accepted_content (accepted_for c d))) (λ o. request_right (granted c d) o) tt (λ o. p))
      answer_rejected_few

  accepted_verdict_few : (f : Option Bearer) (q : Stream) (d : Option Bearer) → FewNamed d → FewBy (accepted_verdict c f q d)
  accepted_verdict_few f q none p = tt
  accepted_verdict_few f q (some d) p = either FewBy (right_accepted c f q d) (agreed d) failed p tt

  if_awaited_few : (o : Option Stream) (v : Stream → Verdict) → ((q : Stream) → FewBy (v q)) → FewBy (if_awaited o v)
  if_awaited_few none v p = tt
  if_awaited_few (some q) v p = p q

  message_verdict_few : (k : Book) (h : Heard) → FewHeard h → FewBy (message_verdict c k h)
  message_verdict_few k hears.nothing_heard p = tt
  message_verdict_few k hears.other_version_heard p =
      either FewBy (ignores k) discarded (answer_confused c) tt (if_writable_all FewBy (message_octets c.own writing.confused_content) (λ o. request_confused o) tt (λ o. tt))
  message_verdict_few k (hears.request_heard d) p = either FewBy (ignores k) discarded (request_verdict c (settled k) d) tt (request_verdict_few (settled k) d p)
  message_verdict_few k (hears.accepted_heard d) p = if_awaited_few (awaited k) (λ q. accepted_verdict c (settled k) q d) (λ q. accepted_verdict_few (settled k) q d p)
  message_verdict_few k hears.decline_heard p = if_awaited_few (awaited k) (λ q. failed) (λ q. tt)

  event_verdict_few : (k : Book) (e : Event) → FewBy (event_verdict c k e)
  event_verdict_few idle (set_up n p t) = command_verdict_few (commanded c n p t) (commanded_few c n p t)
  event_verdict_few (await_setup q) (set_up n p t) = tt
  event_verdict_few (up s b) (set_up n p t) = tt
  event_verdict_few (await_change s b q) (set_up n p t) = tt
  event_verdict_few idle (change n p t) = tt
  event_verdict_few (await_setup q) (change n p t) = tt
  event_verdict_few (up s b) (change n p t) = command_verdict_few (commanded c n p t) (commanded_few c n p t)
  event_verdict_few (await_change s b q) (change n p t) = tt
  event_verdict_few idle release = tt
  event_verdict_few (await_setup q) release = tt
  event_verdict_few (up s b) release = tt
  event_verdict_few (await_change s b q) release = tt
  event_verdict_few idle t1 = tt
  event_verdict_few (await_setup q) t1 = tt
  event_verdict_few (up s b) t1 = tt
  event_verdict_few (await_change s b q) t1 = tt
  event_verdict_few idle t2 = tt
  event_verdict_few (await_setup q) t2 = tt
  event_verdict_few (up s b) t2 = tt
  event_verdict_few (await_change s b q) t2 = tt
  event_verdict_few k (message m) = message_verdict_few k (heard m) (heard_few m)

  rule_few : (k : Book) (g : Given) → FewBy (rule c k g)
  unfolding rule
  rule_few k g = either FewBy (ltb g.room least_room) (refused BufferTooShort) (event_verdict c k g.event) tt (event_verdict_few k g.event)

-- ---- texts laid one after another
-- p is where t stands in m
record At (m : List ℕ) (p : Span) (t : List ℕ) : Type 0 where
  is : text_of m p ≡ t
  within : inside m p ≡ true

-- t at the end of a list
at_end : (m t : List ℕ) → At (m ++ t) (record { at = length m; len = length t }) t
unfolding text_of
at_end m t = record { is = rw (drop-append_seam m t) (take_all (length t) t (omega arith)); within = le-leb (length m + length t) (length (m ++ t)) (omega (arith, length-append m t)) }

-- a list that goes on
at_front : (m z : List ℕ) (p : Span) (t : List ℕ) → At m p t → At (m ++ z) p t
unfolding text_of
at_front m z p t h =
    let k : p.at + p.len ≤ length m = leb-true (p.at + p.len) (length m) h.within in
    record {
      is = rw (drop-append-le p.at m z (omega arith)) (take-append-le p.len (drop p.at m) z (omega (arith, length-drop p.at m)) ∙ h.is);
      within = le-leb (p.at + p.len) (length (m ++ z)) (omega (arith, length-append m z));
    }

-- a list and places in it that say what s does
record Laid (s : Stream) : Type 0 where
  text : List ℕ
  places : Places
  is : stream_by text places ≡ s
  within : stream_inside text places ≡ true

and_true : (a b : Bool) → a ≡ true → b ≡ true → (a && b) ≡ true
and_true true b p q = q
and_true false b p q = p

all_taken : (m : List ℕ) (n : ℕ) (ps : List Span) → all_in m ps ≡ true → all_in m (take n ps) ≡ true
unfolding all_in
all_taken m zero [] h = refl
all_taken m zero (p ∷ ps) h = refl
all_taken m (suc n) [] h = refl
all_taken m (suc n) (p ∷ ps) h =
    let (a, b) = (and-eq-true_iff (inside m p) (all_in m ps)).0 h in
    and_true (inside m p) (all_in m (take n ps)) a (all_taken m n ps b)

-- media, transport, rtpmap, and x, y and z, of which the first n are the fmtp texts
module _ (s : Stream) (x y z : List ℕ) where
  abbrev three : List ℕ
  three = s.media ++ s.transport ++ s.rtpmap

  abbrev all : List ℕ
  all = three ++ x ++ y ++ z

  abbrev media_at : Span
  media_at = record { at = 0; len = length s.media }

  abbrev transport_at : Span
  transport_at = record { at = length s.media; len = length s.transport }

  abbrev rtpmap_at : Span
  rtpmap_at = record { at = length (s.media ++ s.transport); len = length s.rtpmap }

  abbrev x_at : Span
  x_at = record { at = length three; len = length x }

  abbrev y_at : Span
  y_at = record { at = length (three ++ x); len = length y }

  abbrev z_at : Span
  z_at = record { at = length (three ++ x ++ y); len = length z }

  on : (p : Span) (t : List ℕ) → At three p t → At all p t
  on p t h = at_front (three ++ x ++ y) z p t (at_front (three ++ x) y p t (at_front three x p t h))

  media_is : At all media_at s.media
  media_is =
      on media_at s.media
      (at_front (s.media ++ s.transport) s.rtpmap media_at s.media (at_front s.media s.transport media_at s.media (at_end [] s.media)))

  transport_is : At all transport_at s.transport
  transport_is =
      on transport_at s.transport (at_front (s.media ++ s.transport) s.rtpmap transport_at s.transport (at_end s.media s.transport))

  rtpmap_is : At all rtpmap_at s.rtpmap
  rtpmap_is = on rtpmap_at s.rtpmap (at_end (s.media ++ s.transport) s.rtpmap)

  x_is : At all x_at x
  x_is = at_front (three ++ x ++ y) z x_at x (at_front (three ++ x) y x_at x (at_end three x))

  y_is : At all y_at y
  y_is = at_front (three ++ x ++ y) z y_at y (at_end (three ++ x) y)

  z_is : At all z_at z
  z_is = at_end (three ++ x ++ y) z

  laid_by : (n : ℕ) → n ≤ 3 → map (text_of all) (take n (x_at ∷ y_at ∷ z_at ∷ [])) ≡ s.fmtp → Laid s
  unfolding stream_by texts_by spans_of stream_inside all_in
  laid_by n few e =
      record {
        text = all;
        places =
            record {
              media = media_at;
              port = s.port;
              transport = transport_at;
              payload = s.payload;
              rtpmap = rtpmap_at;
              fmtp = record { count = n; spans = x_at ∷ y_at ∷ z_at ∷ [] };
              ptime = s.ptime;
            };
        is = λ i. record { media = media_is.is i; port = s.port; transport = transport_is.is i; payload = s.payload; rtpmap = rtpmap_is.is i; fmtp = e i; ptime = s.ptime };
        within =
            and_true _ _ media_is.within
            (and_true _ _ transport_is.within
            (and_true _ _ rtpmap_is.within
            (and_true _ _ (le-leb n 3 few)
            (all_taken all n (x_at ∷ y_at ∷ z_at ∷ [])
            (and_true _ _ x_is.within (and_true _ _ y_is.within (and_true _ _ z_is.within refl)))))));
      }

laid : (s : Stream) → Few s → Laid s
laid s h = go s.fmtp refl h
  where
    go : (fs : List (List ℕ)) → s.fmtp ≡ fs → length fs ≤ 3 → Laid s
    go [] e h = laid_by s [] [] [] 0 (lit≤ tt) (sym e)
    go (x ∷ []) e h = laid_by s x [] [] 1 (lit≤ tt) ((λ i. (x_is s x [] []).is i ∷ []) ∙ sym e)
    go (x ∷ y ∷ []) e h = laid_by s x y [] 2 (lit≤ tt) ((λ i. (x_is s x y []).is i ∷ (y_is s x y []).is i ∷ []) ∙ sym e)
    go (x ∷ y ∷ z ∷ []) e h = laid_by s x y z 3 (lit≤ tt) ((λ i. (x_is s x y z).is i ∷ (y_is s x y z).is i ∷ (z_is s x y z).is i ∷ []) ∙ sym e)
    go (x ∷ y ∷ z ∷ w ∷ ws) e h = absurd (omega arith)

-- ---- the endpoint after a verdict
record Next (self : Endpoint) (v : Verdict) : Type 0 where
  endpoint : Endpoint
  same : Same self endpoint (moved (book_of self) v)
  unaltered : Unaltered v self endpoint

module _ (self : Endpoint) where
  still : Same self self (book_of self)
  still = record { config = refl; book = refl; inside = λ i. i }

  settled_next : (b : Bearer) → Few b.stream → (e : Endpoint) × Same self e (settling b (book_of self))
  unfolding bearer_by
  settled_next b p =
      let l = laid b.stream p in
      let h : held.Bearer = record { address = b.address; stream = l.places; text = l.text } in
      let e : Endpoint = record { config = self.config; state = Up; side = settled_side self.state self.side; request = self.request; bearer = h } in
      let named : bearer_by h ≡ b = (λ i. record { address = b.address; stream = l.is i }) in (
        e,
        subst (λ (d : Bearer). Same self e (settling d (book_of self))) named (same_settling self h (settled_side self.state self.side) l.within refl),
      )

  opened_next : (q : Stream) → Few q → (e : Endpoint) × Same self e (opening q (book_of self))
  unfolding request_by
  opened_next q p =
      let l = laid q p in
      let h : ours.Request = record { stream = l.places; text = l.text } in
      let e : Endpoint = record { config = self.config; state = opened_state self.state; side = self.side; request = h; bearer = self.bearer } in (
        e,
        subst (λ (d : Stream). Same self e (opening d (book_of self))) l.is (same_opening self h (opened_state self.state) l.within refl),
      )

  next : (v : Verdict) → FewBy v → Next self v
  next (refused n) p = record { endpoint = self; same = still; unaltered = refl }
  next discarded p = record { endpoint = self; same = still; unaltered = refl }
  next (opened q o) p = let (e, h) = opened_next q p in record { endpoint = e; same = h; unaltered = tt }
  next (agreed b) p = let (e, h) = settled_next b p in record { endpoint = e; same = h; unaltered = tt }
  next failed p = record { endpoint = _; same = same_closed self (closed_state self.state) refl; unaltered = tt }
  next released p =
      record {
        endpoint = record { config = self.config; state = Idle; side = self.side; request = self.request; bearer = self.bearer };
        same = record { config = refl; book = refl; inside = λ i. record { request = i.request; bearer = i.bearer } };
        unaltered = tt;
      }
  next (request_confused o) p = record { endpoint = self; same = still; unaltered = refl }
  next (request_right b o) p = let (e, h) = settled_next b p in record { endpoint = e; same = h; unaltered = tt }
  next (request_wrong o) p = record { endpoint = _; same = same_closed self (closed_state self.state) refl; unaltered = tt }

-- ---- an answer to every event, and a run through every list
pub answer_exists : (e : Endpoint) (x : Event) (buffer : List ℕ) → HasAnswer e x buffer
answer_exists e x buffer =
    let v : Verdict = rule (configuration_by e.config) (book_of e) (record { event = x; room = length buffer }) in
    let n = next e v (rule_few (configuration_by e.config) (book_of e) (record { event = x; room = length buffer })) in
    record {
      out = out_for (replied (book_of e) v) buffer;
      answer = record { endpoint = n.endpoint; reply = reply_for (replied (book_of e) v) };
      did = record { config = n.same.config; book = n.same.book; reply = refl; out = refl; unaltered = n.unaltered; inside = n.same.inside };
    }

-- a run that goes on with the events xs
onward : (e : Endpoint) (gs : List Given) → HasRun e gs → (xs : List Given) → HasRun e (gs ++ xs)
onward e gs h [] = subst (λ (l : List Given). HasRun e l) (sym (append-nil gs)) h
onward e gs h (x ∷ xs) =
    let buffer : List ℕ = replicate x.room 0 in
    let a = answer_exists h.left x.event buffer in
    let further : HasRun e (gs ++ (record { event = x.event; room = length buffer } ∷ [])) = record { lines = _; left = _; run = after h.run x.event buffer a.out a.answer a.did } in
    let room : record { event = x.event; room = length buffer } ≡ x = (λ i. record { event = x.event; room = length-replicate {A = ℕ} x.room 0 i }) in
    subst (λ (l : List Given). HasRun e l) (append_assoc gs (x ∷ []) xs)
    (onward e (gs ++ (x ∷ [])) (subst (λ (g : Given). HasRun e (gs ++ (g ∷ []))) room further) xs)

pub run_exists : (e : Endpoint) (gs : List Given) → HasRun e gs
run_exists e gs = onward e [] (record { lines = []; left = e; run = begun }) gs
