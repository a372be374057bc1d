-- What can be quoted about one event, from the contract of its method alone, by cases on the rules' verdict.
-- Assumes nothing.
use Prim.Native.Nat.{ℕ, ◌≤◌}
use mathlib.Core.Path.{◌≡◌, refl, sym, ◌∙◌, ap, ap₂, subst}
use mathlib.Core.Bool.{Bool, true, false, cond, and-eq-true_iff, false≢true}
use mathlib.Core.List.{List}
use mathlib.Core.Option.{Option, none, some, none-ne-some}
use lib.ListN.{length}
use lib.Dec.{eqb, leb}
use native.Mathlib.Omega.{arith}
use borrow.Author.Tests.{le-ltb, le-leb, ne_eqb}
use Rattle.std.specs.Prelude.{Some, None, Result, Ok, Err}
use Rattle.std.specs.Prelude as code
use Rattle.octets.specs.declared.Refusal.{Refusal}
use Rattle.octets.specs.declared.Refusal.TheVariants.{BufferTooShort}
use Rattle.octets.proofs.CaseLaws.{by_eq, by_bool}
use Rattle.book.specs.Book.{settled, awaited, ignores, replied}
use Rattle.book.specs.Book.{refused, discarded, opened, agreed, failed, released, request_confused, request_right, request_wrong}
use Rattle.book.specs.Strike.{in_force_by}
use Rattle.book.proofs.Struck.{held_more}
use Rattle.media.specs.Stream.{Stream}
use Rattle.ipbcp.specs.declared.MessageType as kinds
use Rattle.ipbcp.specs.declared.MessageType.TheVariants as kind
use Rattle.ipbcp.specs.declared.Head.{Head}
use Rattle.ipbcp.specs.Types.{head_in}
use Rattle.ipbcp.specs.Reading.{Reading, typed, described, read_message, most_read}
use Rattle.ipbcp.specs.Reading as reading
use Rattle.ipbcp.specs.Writing as writing
use Rattle.ipbcp.specs.Writing.{message_text}
use Rattle.configuration.specs.Configuration.{Configuration, right_configuration}
use Rattle.configuration.specs.Meaning.{configuration_by, config_inside, right_config}
use Rattle.bearer.specs.Bearer.{Bearer}
use Rattle.bearer.specs.Hearing as hears
use Rattle.bearer.specs.Hearing.{Heard, heard, heard_typed, heard_by, bearer_in}
use Rattle.bearer.specs.Judging.{commanded, right_request, granted, accepted_for, right_accepted}
use Rattle.bearer.proofs.Writable.{confused_octets, rejected_octets, commanded_octets, answered_octets}
use Rattle.endpoint.specs.declared.Endpoint.{Endpoint}
use Rattle.endpoint.specs.declared.Answer.{Answer}
use Rattle.endpoint.specs.declared.Done.{Done}
use Rattle.endpoint.specs.Rule.{Book, Verdict, Event, Given, command_verdict, answer_confused, answer_rejected, request_verdict, accepted_verdict, if_awaited, message_verdict, event_verdict, rule, exchanged, least_room}
use Rattle.endpoint.specs.Step.{book_of, Gave, Did}
use Rattle.endpoint.specs.Demand.{reply_by}
use Rattle.endpoint.specs.Promises.{right_in, Discards, Takes, Judges, Confuses}
use Rattle.endpoint.proofs.Ruled.{either, rule_laws}
use Rattle.endpoint.proofs.Demand.{told_back}

-- ---- demand 1: a refusal alters nothing
no_refusal : {r : Result Done Refusal} {d : Done} {e : Refusal} → r ≡ Ok d → r ≡ Err e → ⊥
no_refusal p q = let z : ◌≡◌ {A = ℕ} 0 1 = cc in omega arith

-- what is answered by a refusal got that verdict
refused_is : (self : Endpoint) (v : Verdict) (xs ys : List ℕ) (r : Answer) (why : Refusal) → Gave self v xs ys r → r.reply ≡ Err why → v ≡ refused why
refused_is self (refused m) xs ys r why g e = let p = g.reply in let same : m ≡ why = cc in ap (λ (k : Refusal). refused k) same
refused_is self discarded xs ys r why g e = absurd (no_refusal g.reply e)
refused_is self (opened q o) xs ys r why g e = absurd (no_refusal g.reply e)
refused_is self (agreed b) xs ys r why g e = absurd (no_refusal g.reply e)
refused_is self failed xs ys r why g e = absurd (no_refusal g.reply e)
refused_is self released xs ys r why g e = absurd (no_refusal g.reply e)
refused_is self (request_confused o) xs ys r why g e = absurd (no_refusal g.reply e)
refused_is self (request_right b o) xs ys r why g e = absurd (no_refusal g.reply e)
refused_is self (request_wrong o) xs ys r why g e = absurd (no_refusal g.reply e)

-- the endpoint and the buffer are as they were
pub refusal_alters_nothing : (self : Endpoint) (e : Event) (xs ys : List ℕ) (r : Answer) (why : Refusal) → Did self e xs ys r → r.reply ≡ Err why → (r.endpoint ≡ self) × (ys ≡ xs)
refusal_alters_nothing self e xs ys r why did p =
    let g = subst (λ (v : Verdict). Gave self v xs ys r) (refused_is self _ xs ys r why did p) did in
    (g.unaltered, g.out)

-- ---- demand 3: the bearer in force
-- It changes by an exchange that succeeds, whose bearer it then is, and by a release; by nothing else: `held` says so by the notice.
pub bearer_changes : (self : Endpoint) (e : Event) (xs ys : List ℕ) (r : Answer) → Did self e xs ys r
    → settled (book_of r.endpoint) ≡ in_force_by (reply_by r.reply ys) (settled (book_of self)) (exchanged (configuration_by self.config) (record { event = e; room = length xs }))
bearer_changes self e xs ys r did =
    let c = configuration_by self.config in
    let g : Given = record { event = e; room = length xs } in
    let v = rule c (book_of self) g in
    let told : reply_by r.reply ys ≡ replied (book_of self) v = told_by_lem did in
    ap settled did.book ∙ held_more (rule c) (rule_laws c) (book_of self) g v refl ∙ ap (λ a. in_force_by a (settled (book_of self)) (exchanged c g)) (sym told)
  where
    told_by_lem : Did self e xs ys r → reply_by r.reply ys ≡ replied (book_of self) (rule (configuration_by self.config) (book_of self) (record { event = e; room = length xs }))
    told_by_lem did = ap₂ reply_by did.reply did.out ∙ told_back (replied (book_of self) (rule (configuration_by self.config) (book_of self) (record { event = e; room = length xs }))) xs

-- ---- from an event to the rules' verdict
gave_ruled : (self : Endpoint) (e : Event) (xs ys : List ℕ) (r : Answer) (v : Verdict) → Did self e xs ys r → least_room ≤ length xs → event_verdict (configuration_by self.config) (book_of self) e ≡ v → Gave self v xs ys r
unfolding rule
gave_ruled self e xs ys r v did l p =
    subst (λ (w : Verdict). Gave self w xs ys r) (ap (λ (t : Bool). cond t (refused BufferTooShort) (event_verdict (configuration_by self.config) (book_of self) e)) (le-ltb (length xs) least_room l) ∙ p) did

-- ---- demand 2: an Accepted puts its bearer in force exactly when it is right
heard_accepted : (m : List ℕ) (version : ℕ) → length m ≤ most_read → head_in m ≡ Some (record { version = version; kind = kind.Accepted }) → heard m ≡ hears.accepted_heard (bearer_in (read_message m))
unfolding heard heard_by
heard_accepted m version l h = rw (le-leb (length m) most_read l, h)

module _ (c : Configuration) (f : Option Bearer) (q : Stream) where
  accepted_verdict_right : (o : Option Bearer) (d : Bearer) → o ≡ some d → right_in (right_accepted c f q) o ≡ true → accepted_verdict c f q o ≡ agreed d
  accepted_verdict_right none d e h = absurd (none-ne-some d e)
  accepted_verdict_right (some x) d e h = let same : x ≡ d = cc in rw h (ap (λ b. agreed b) same)

  accepted_verdict_wrong : (o : Option Bearer) → right_in (right_accepted c f q) o ≡ false → accepted_verdict c f q o ≡ failed
  accepted_verdict_wrong none h = refl
  accepted_verdict_wrong (some x) h = rw h

-- m is an Accepted of any version, not too long, and comes while our Request q is open, with a buffer that is long enough
pub accepted_exactly : (self : Endpoint) (q : Stream) (m xs ys : List ℕ) (version : ℕ) (r : Answer) → Did self (Event.message m) xs ys r
    → least_room ≤ length xs → length m ≤ most_read → head_in m ≡ Some (record { version = version; kind = kind.Accepted }) → awaited (book_of self) ≡ some q → Takes self q m xs ys r
accepted_exactly self q m xs ys version r did room short head awaits =
    record {
      right = λ d e h. let g = gave (agreed d) (accepted_verdict_right c (settled (book_of self)) q (bearer_in (read_message m)) d e h) in (g.book, g.reply, g.out);
      wrong = λ h. let g = gave failed (accepted_verdict_wrong c (settled (book_of self)) q (bearer_in (read_message m)) h) in (g.book, g.reply, g.out);
    }
  where
    c : Configuration
    c = configuration_by self.config

    gave : (v : Verdict) → accepted_verdict c (settled (book_of self)) q (bearer_in (read_message m)) ≡ v → Gave self v xs ys r
    gave v p =
        gave_ruled self (Event.message m) xs ys r v did room
        (ap (message_verdict c (book_of self)) (heard_accepted m version short head)
        ∙ ap (λ (o : Option Stream). if_awaited o (λ x. accepted_verdict c (settled (book_of self)) x (bearer_in (read_message m)))) awaits
        ∙ p)

discards : (self : Endpoint) (xs ys : List ℕ) (r : Answer) → Gave self discarded xs ys r → Discards self xs ys r
discards self xs ys r g = record { endpoint = g.unaltered; reply = g.reply; out = g.out }

-- where no Request of ours is open, it is discarded
pub accepted_unawaited : (self : Endpoint) (m xs ys : List ℕ) (version : ℕ) (r : Answer) → Did self (Event.message m) xs ys r
    → least_room ≤ length xs → length m ≤ most_read → head_in m ≡ Some (record { version = version; kind = kind.Accepted }) → awaited (book_of self) ≡ none → Discards self xs ys r
accepted_unawaited self m xs ys version r did room short head unawaited =
    discards self xs ys r
    (gave_ruled self (Event.message m) xs ys r discarded did room
    (ap (message_verdict (configuration_by self.config) (book_of self)) (heard_accepted m version short head)
    ∙ ap (λ (o : Option Stream). if_awaited o (λ x. accepted_verdict (configuration_by self.config) (settled (book_of self)) x (bearer_in (read_message m)))) unawaited))

-- ---- demand 2: a peer's Request is accepted exactly when it is right
heard_request : (m : List ℕ) → length m ≤ most_read → head_in m ≡ Some (record { version = 1; kind = kind.Request }) → heard m ≡ hears.request_heard (bearer_in (read_message m))
unfolding heard heard_by
heard_request m l h = rw (le-leb (length m) most_read l, h)

described_named : (x : Reading) (d : Bearer) → bearer_in x ≡ some d → (k : kinds.MessageType) × (x ≡ described k d.address d.stream)
unfolding bearer_in
described_named (reading.refused n) d e = absurd (none-ne-some d e)
described_named (typed v k) d e = absurd (none-ne-some d e)
described_named (described k a s) d e = (k, cc)

usable : (self : Endpoint) → right_config self.config ≡ true → right_configuration (configuration_by self.config) ≡ true
unfolding right_config
usable self h = ((and-eq-true_iff (config_inside self.config) (right_configuration (configuration_by self.config))).0 h).1

module _ (c : Configuration) (right : right_configuration c ≡ true) where
  answer_rejected_is : answer_rejected c ≡ request_wrong (message_text c.own writing.rejected_content)
  answer_rejected_is = rw (rejected_octets c right)

  answer_confused_is : answer_confused c ≡ request_confused (message_text c.own writing.confused_content)
  answer_confused_is = rw (confused_octets c right)

  module _ (m : List ℕ) (f : Option Bearer) where
    request_verdict_right : (d : Bearer) → bearer_in (read_message m) ≡ some d → right_in (right_request c f) (bearer_in (read_message m)) ≡ true
        → request_verdict c f (bearer_in (read_message m)) ≡ request_right (granted c d) (message_text c.own (writing.accepted_content (accepted_for c d)))
    request_verdict_right d e h =
        let (k, is) = described_named (read_message m) d e in
        let t : right_request c f d ≡ true = rw e at h in
        rw (e, t, answered_octets c right m k f d is t)

    request_verdict_wrong : (o : Option Bearer) → right_in (right_request c f) o ≡ false → request_verdict c f o ≡ request_wrong (message_text c.own writing.rejected_content)
    request_verdict_wrong none h = answer_rejected_is
    request_verdict_wrong (some d) h = rw h answer_rejected_is

-- m is a Request of version 1, not too long, and comes where Requests are not discarded, with a buffer that is long enough, to an
-- endpoint whose configuration is not refused
pub request_exactly : (self : Endpoint) (m xs ys : List ℕ) (r : Answer) → right_config self.config ≡ true → Did self (Event.message m) xs ys r
    → least_room ≤ length xs → length m ≤ most_read → head_in m ≡ Some (record { version = 1; kind = kind.Request }) → ignores (book_of self) ≡ false → Judges self m xs ys r
unfolding configuration_by
request_exactly self m xs ys r config did room short head heeds =
    record {
      right = λ d e h.
          let g = gave _ (request_verdict_right c (usable self config) m (settled (book_of self)) d e h) in
          (g.book, record { out = g.out; reply = g.reply });
      wrong = λ h.
          let g = gave _ (request_verdict_wrong c (usable self config) m (settled (book_of self)) (bearer_in (read_message m)) h) in
          (g.book, record { out = g.out; reply = g.reply });
    }
  where
    c : Configuration
    c = configuration_by self.config

    gave : (v : Verdict) → request_verdict c (settled (book_of self)) (bearer_in (read_message m)) ≡ v → Gave self v xs ys r
    gave v p =
        gave_ruled self (Event.message m) xs ys r v did room
        (ap (message_verdict c (book_of self)) (heard_request m short head)
        ∙ ap (λ (t : Bool). cond t discarded (request_verdict c (settled (book_of self)) (bearer_in (read_message m)))) heeds
        ∙ p)

-- one of another version is heard as such
heard_other : (m : List ℕ) (version : ℕ) → length m ≤ most_read → head_in m ≡ Some (record { version = version; kind = kind.Request }) → (version ≡ 1 → ⊥) → heard m ≡ hears.other_version_heard
unfolding heard heard_by
heard_other m version l h n = rw (le-leb (length m) most_read l, h, ne_eqb version 1 n)

-- it is answered Confused, where Requests are not discarded
pub request_confused_lem : (self : Endpoint) (m xs ys : List ℕ) (version : ℕ) (r : Answer) → right_config self.config ≡ true → Did self (Event.message m) xs ys r
    → least_room ≤ length xs → length m ≤ most_read → head_in m ≡ Some (record { version = version; kind = kind.Request }) → (version ≡ 1 → ⊥) → ignores (book_of self) ≡ false → Confuses self xs ys r
unfolding configuration_by
request_confused_lem self m xs ys version r config did room short head other heeds =
    let c = configuration_by self.config in
    let g =
    gave_ruled self (Event.message m) xs ys r (request_confused (message_text c.own writing.confused_content)) did room
    (ap (message_verdict c (book_of self)) (heard_other m version short head other)
    ∙ ap (λ (t : Bool). cond t discarded (answer_confused c)) heeds
    ∙ answer_confused_is c (usable self config)) in
    record { endpoint = g.unaltered; out = g.out; reply = g.reply }

-- and any Request is discarded while our set-up is awaited, and at I while our change is
pub request_ignored : (self : Endpoint) (m xs ys : List ℕ) (version : ℕ) (r : Answer) → Did self (Event.message m) xs ys r
    → least_room ≤ length xs → length m ≤ most_read → head_in m ≡ Some (record { version = version; kind = kind.Request }) → ignores (book_of self) ≡ true → Discards self xs ys r
request_ignored self m xs ys version r did room short head ignored =
    discards self xs ys r
    (gave_ruled self (Event.message m) xs ys r discarded did room
    (by_eq version 1 _
    (λ e. ap (message_verdict c (book_of self)) (heard_request m short (head ∙ ap (λ (v : ℕ). Some (record { version = v; kind = kind.Request })) e)) ∙ ap (λ (t : Bool). cond t discarded (request_verdict c (settled (book_of self)) (bearer_in (read_message m)))) ignored)
    (λ e. ap (message_verdict c (book_of self)) (heard_other m version short head e) ∙ ap (λ (t : Bool). cond t discarded (answer_confused c)) ignored)))
  where
    c : Configuration
    c = configuration_by self.config

-- ---- with a valid configuration a message is refused only for a short buffer, and a command that has a Request is not refused
abbrev Answered : Verdict → Type 0
Answered (refused n) = ⊥
Answered discarded = Unit {0}
Answered (opened q o) = Unit {0}
Answered (agreed b) = Unit {0}
Answered failed = Unit {0}
Answered released = Unit {0}
Answered (request_confused o) = Unit {0}
Answered (request_right b o) = Unit {0}
Answered (request_wrong o) = Unit {0}

-- a Request of version 1 names what can be read of it
request_names : (m : List ℕ) (d : Option Bearer) → heard m ≡ hears.request_heard d → d ≡ bearer_in (read_message m)
unfolding heard heard_by
request_names m d e =
    by_bool (leb (length m) most_read) _
    (λ l. go (head_in m) (rw l at e))
    (λ l. let w : hears.nothing_heard ≡ hears.request_heard d = rw l at e in absurd (let z : ◌≡◌ {A = ℕ} 0 1 = cc in omega arith))
  where
    typed_names : (k : kinds.MessageType) (v : ℕ) → heard_typed k v (read_message m) ≡ hears.request_heard d → d ≡ bearer_in (read_message m)
    typed_names kind.Request v w =
        by_bool (eqb v 1) _
        (λ t. let x : hears.request_heard (bearer_in (read_message m)) ≡ hears.request_heard d = rw t at w in cc)
        (λ t. let x : hears.other_version_heard ≡ hears.request_heard d = rw t at w in absurd (let z : ◌≡◌ {A = ℕ} 0 1 = cc in omega arith))
    typed_names kind.Accepted v w = absurd (let z : ◌≡◌ {A = ℕ} 0 1 = cc in omega arith)
    typed_names kind.Confused v w = absurd (let z : ◌≡◌ {A = ℕ} 0 1 = cc in omega arith)
    typed_names kind.Rejected v w = absurd (let z : ◌≡◌ {A = ℕ} 0 1 = cc in omega arith)

    go : (y : code.Option Head) → heard_by y (read_message m) ≡ hears.request_heard d → d ≡ bearer_in (read_message m)
    go None w = absurd (let z : ◌≡◌ {A = ℕ} 0 1 = cc in omega arith)
    go (Some h) w = typed_names h.kind h.version w

if_awaited_answered : (o : Option Stream) (v : Stream → Verdict) → ((q : Stream) → Answered (v q)) → Answered (if_awaited o v)
if_awaited_answered none v a = tt
if_awaited_answered (some q) v a = a q

module _ (c : Configuration) (right : right_configuration c ≡ true) (m : List ℕ) where
  request_verdict_answered : (f : Option Bearer) → Answered (request_verdict c f (bearer_in (read_message m)))
  request_verdict_answered f =
      by_bool (right_in (right_request c f) (bearer_in (read_message m))) _
      (λ h. go (bearer_in (read_message m)) refl h)
      (λ h. subst Answered (sym (request_verdict_wrong c right m f (bearer_in (read_message m)) h)) tt)
    where
      go : (o : Option Bearer) → bearer_in (read_message m) ≡ o → right_in (right_request c f) (bearer_in (read_message m)) ≡ true → Answered (request_verdict c f (bearer_in (read_message m)))
      go none e h = let z : false ≡ true = rw e at h in absurd (false≢true z)
      go (some d) e h = subst Answered (sym (request_verdict_right c right m f d e h)) tt

  accepted_verdict_answered : (f : Option Bearer) (q : Stream) (o : Option Bearer) → Answered (accepted_verdict c f q o)
  accepted_verdict_answered f q none = tt
  accepted_verdict_answered f q (some d) = either Answered (right_accepted c f q d) (agreed d) failed tt tt

  message_verdict_answered : (k : Book) (h : Heard) → heard m ≡ h → Answered (message_verdict c k h)
  message_verdict_answered k hears.nothing_heard e = tt
  message_verdict_answered k hears.other_version_heard e = either Answered (ignores k) discarded (answer_confused c) tt (subst Answered (sym (answer_confused_is c right)) tt)
  message_verdict_answered k (hears.request_heard d) e =
      either Answered (ignores k) discarded (request_verdict c (settled k) d) tt
      (subst (λ (o : Option Bearer). Answered (request_verdict c (settled k) o)) (sym (request_names m d e)) (request_verdict_answered (settled k)))
  message_verdict_answered k (hears.accepted_heard d) e = if_awaited_answered (awaited k) (λ q. accepted_verdict c (settled k) q d) (λ q. accepted_verdict_answered (settled k) q d)
  message_verdict_answered k hears.decline_heard e = if_awaited_answered (awaited k) (λ q. failed) (λ q. tt)

pub message_answered : (self : Endpoint) (m xs ys : List ℕ) (r : Answer) (why : Refusal) → right_config self.config ≡ true → Did self (Event.message m) xs ys r → least_room ≤ length xs → r.reply ≡ Err why → ⊥
message_answered self m xs ys r why config did room e =
    let g = gave_ruled self (Event.message m) xs ys r _ did room refl in
    subst Answered (refused_is self _ xs ys r why g e) (message_verdict_answered (configuration_by self.config) (usable self config) m (book_of self) (heard m) refl)

-- such a command writes the octets of its Request, and opens it
pub command_verdict_opens : (c : Configuration) → right_configuration c ≡ true → (entry payload ptime : ℕ) (q : Stream) → commanded c entry payload ptime ≡ some q
    → command_verdict c (commanded c entry payload ptime) ≡ opened q (message_text c.own (writing.request_content q))
command_verdict_opens c right entry payload ptime q e = rw (e, commanded_octets c right entry payload ptime q e)
