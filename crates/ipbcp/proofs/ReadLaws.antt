-- Laws of reading a message: each answer is the definition's.
-- Assumes nothing.
use Prim.Native.Nat.{ℕ, ◌≤◌, ◌<◌}
use mathlib.Core.Path.{◌≡◌, refl, sym, ap, ◌∙◌}
use mathlib.Core.List.{List}
use mathlib.Core.Bool.{Bool, true, false, cond}
use mathlib.Core.Logic.{◌⊎◌, inl, inr}
use mathlib.Core.Option.{Option, none, some}
use lib.ListN.{length, drop}
use lib.Dec.{eqb}
use native.Mathlib.Omega.{arith}
use borrow.Author.Tests.{le-leb, lt-leb, eq-eqb, ne_eqb}
use Rattle.octets.proofs.CaseLaws.{by_bool}
use Rattle.std.specs.Prelude.{Some, None, Ok, Err, Result}
use Rattle.std.specs.Prelude as answer
use Rattle.octets.specs.declared.Refusal.{Refusal}
use Rattle.octets.specs.declared.Refusal.TheVariants.{MessageTooLong, Unreadable, WrongLine}
use Rattle.sdp.specs.Lines.{lines, in_lines}
use Rattle.address.specs.declared.Address.{Address}
use Rattle.media.specs.declared.Stream.{Stream as Places}
use Rattle.media.specs.Meaning.{stream_by, stream_in, taken_by, KeptInside}
use Rattle.description.specs.Draft.{Draft, empty_draft}
use Rattle.description.specs.Meaning.{after_media, after_media_by}
use Rattle.ipbcp.specs.declared.MessageType.{MessageType}
use Rattle.ipbcp.specs.declared.MessageType.TheVariants.{Request, Accepted, Confused, Rejected}
use Rattle.ipbcp.specs.declared.Head.{Head}
use Rattle.ipbcp.specs.declared.Message.{Message}
use Rattle.ipbcp.specs.declared.Message.TheVariants as said
use Rattle.ipbcp.specs.Types.{head_in}
use Rattle.ipbcp.specs.Reading.{after_lines, concluded, is_described, by_head, read_message, most_read}
use Rattle.ipbcp.specs.Private.{after_text, complete, ReadsStream, Reached, TypeAlone, Describes}
use Rattle.ipbcp.specs.Meaning.{reading_in}

-- ---- a type that the code has matched
pub described_yes : (k : MessageType) → (k ≡ Request) ⊎ (k ≡ Accepted) → true ≡ is_described k
unfolding is_described
described_yes k (inl e) = rw e
described_yes k (inr e) = rw e

pub described_no : (k : MessageType) → (k ≡ Request → ⊥) → (k ≡ Accepted → ⊥) → false ≡ is_described k
unfolding is_described
described_no Request p q = absurd (p refl)
described_no Accepted p q = absurd (q refl)
described_no Confused p q = refl
described_no Rejected p q = refl

-- ---- the answer by version and type
-- what all lines say, by the lines that are right
concluded_ended : (k : MessageType) (o : Option Draft) → concluded k (complete o) ≡ concluded k o
unfolding concluded complete
concluded_ended k none = refl
concluded_ended k (some d) = by_bool (eqb d.had 7) _ (λ e. rw (e, e)) (λ e. rw e)

concluded_by : (m : List ℕ) (k : MessageType) (o : Option Draft) → in_lines m ≡ true → complete (after_text empty_draft m) ≡ o → concluded k o ≡ concluded k (after_lines empty_draft (lines m))
unfolding after_text
concluded_by m k o l e =
    let z : after_text empty_draft m ≡ after_lines empty_draft (lines m) = rw l in
    rw (← e, z) (concluded_ended k (after_lines empty_draft (lines m)))

-- y is the version and the type of m
module _ (m : List ℕ) (y : answer.Option Head) (is : y ≡ head_in m) where
  by_head_lem : (r : Result Message Refusal) (x : answer.Option Head) → y ≡ x → reading_in m r ≡ some (by_head m x) → reading_in m r ≡ some (by_head m (head_in m))
  by_head_lem r x e p = rw (← is, e) p

  pub by_untyped : y ≡ None → reading_in m (Err Unreadable) ≡ some (by_head m (head_in m))
  unfolding reading_in by_head
  by_untyped e = by_head_lem (Err Unreadable) None e refl

  module _ (h : Head) (e : y ≡ Some h) where
    pub read_lined : in_lines m ≡ true
    unfolding head_in
    read_lined =
        by_bool (in_lines m) _
        (λ h. h)
        (λ f. let z : Some h ≡ None = sym e ∙ is ∙ rw f in absurd (let o : ◌≡◌ {A = ℕ} 0 1 = cc in omega arith))

    pub by_version : (h.version ≡ 1 → ⊥) → reading_in m (Ok (said.Typed h.version h.kind)) ≡ some (by_head m (head_in m))
    unfolding reading_in by_head
    by_version g = by_head_lem (Ok (said.Typed h.version h.kind)) (Some h) e (rw (ne_eqb h.version 1 g))

    module _ (one : h.version ≡ 1) (t : Bool) (says : t ≡ is_described h.kind) where
      pub by_type : t ≡ false → reading_in m (Ok (said.Typed h.version h.kind)) ≡ some (by_head m (head_in m))
      unfolding reading_in by_head
      by_type f =
          let g : is_described h.kind ≡ false = sym says ∙ f in
          by_head_lem (Ok (said.Typed h.version h.kind)) (Some h) e (rw (eq-eqb h.version 1 one, g))

      by_lines : t ≡ true → (o : Option Draft) → complete (after_text empty_draft m) ≡ o → (r : Result Message Refusal) → reading_in m r ≡ some (concluded h.kind o) → reading_in m r ≡ some (by_head m (head_in m))
      unfolding by_head
      by_lines f o q r p =
          let g : is_described h.kind ≡ true = sym says ∙ f in
          by_head_lem r (Some h) e (rw (eq-eqb h.version 1 one, g) (p ∙ ap some (concluded_by m h.kind o read_lined q)))

      pub by_wrong : t ≡ true → complete (after_text empty_draft m) ≡ none → reading_in m (Err WrongLine) ≡ some (by_head m (head_in m))
      unfolding reading_in concluded
      by_wrong f q = by_lines f none q (Err WrongLine) refl

      by_stream : t ≡ true → (a : Address) (s : Places) → complete (after_text empty_draft m) ≡ some (after_media a (stream_by m s)) → (r : Places) → KeptInside m s r
          → reading_in m (Ok (said.Described h.kind (record { address = a; stream = r }))) ≡ some (by_head m (head_in m))
      unfolding reading_in concluded after_media stream_in
      by_stream f a s q r p =
          by_lines f (some (after_media a (stream_by m s))) q (Ok (said.Described h.kind (record { address = a; stream = r }))) (rw (p.inside, p.same))

pub ruleset by_types = (by_untyped, by_version, by_type, by_wrong)

-- ---- after the ipbcp line, which says h: u says whether the rest is made of lines
module _ (m : List ℕ) (h : answer.Option Head) (from : ℕ) (told : cond (in_lines (drop from m)) h None ≡ head_in m) (r : List ℕ) (at : r ≡ drop from m) (u : Bool) (is : u ≡ in_lines r) where
  told_yes : u ≡ true → h ≡ head_in m
  told_yes e = let k : in_lines (drop from m) ≡ true = rw (← at) (sym is ∙ e) in rw k at told

  told_no : u ≡ false → None ≡ head_in m
  told_no e = let k : in_lines (drop from m) ≡ false = rw (← at) (sym is ∙ e) in rw k at told

-- only version and type are read
module _ (m : List ℕ) (h : Head) (from : ℕ) (by : TypeAlone m h from) (r : List ℕ) (at : r ≡ drop from m) (u : Bool) (is : u ≡ in_lines r) where
  pub alone_yes : u ≡ true → reading_in m (Ok (said.Typed h.version h.kind)) ≡ some (by_head m (head_in m))
  unfolding reading_in
  alone_yes e = rw (← told_yes m (Some h) from by.head r at u is e, by.alone)

  pub alone_no : u ≡ false → reading_in m (Err Unreadable) ≡ some (by_head m (head_in m))
  alone_no e = by_untyped m None (told_no m (Some h) from by.head r at u is e) refl

pub ruleset alones = (alone_yes, alone_no)

-- a Request or Accepted: y is what the lines there say
there : (b : Bool) (o : Option Draft) (d : Draft) → complete (cond b o none) ≡ some d → b ≡ true
unfolding complete
there true o d e = refl
there false o d e = absurd (let z : ◌≡◌ {A = ℕ} 0 1 = cc in omega arith)

module _ (m : List ℕ) (kind : MessageType) (a : Address) (from : ℕ) (by : Describes m kind a from) (y : answer.Option Places) (is : ReadsStream m from y) where
  all_say : complete (after_text empty_draft m) ≡ after_media_by a m y
  all_say = rw (← by.reached.lines) (sym (is.is a))

  module _ (e : y ≡ None) (r : List ℕ) (at : r ≡ drop from m) (u : Bool) (lined : u ≡ in_lines r) where
    pub describe_wrong : u ≡ true → reading_in m (Err WrongLine) ≡ some (by_head m (head_in m))
    unfolding after_media_by taken_by
    describe_wrong f =
        by_wrong m (Some (record { version = 1; kind = kind })) (told_yes m (Some (record { version = 1; kind = kind })) from by.reached.head r at u lined f) (record { version = 1; kind = kind }) refl refl true (sym by.more) refl (all_say ∙ rw e)

    pub describe_none : u ≡ false → reading_in m (Err Unreadable) ≡ some (by_head m (head_in m))
    describe_none f = by_untyped m None (told_no m (Some (record { version = 1; kind = kind })) from by.reached.head r at u lined f) refl

  pub describe_is : (s : Places) → y ≡ Some s → (r : Places) → KeptInside m s r → reading_in m (Ok (said.Described kind (record { address = a; stream = r }))) ≡ some (by_head m (head_in m))
  unfolding after_text after_media_by taken_by
  describe_is s e r p =
      let q : after_media_by a m y ≡ some (after_media a (stream_by m s)) = rw e in
      let k : in_lines (drop from m) ≡ true = there (in_lines (drop from m)) _ _ (sym (is.is a) ∙ q) in
      let t : Some (record { version = 1; kind = kind }) ≡ head_in m = rw k at by.reached.head in
      by_stream m (Some (record { version = 1; kind = kind })) t (record { version = 1; kind = kind }) refl refl true (sym by.more) refl a s (all_say ∙ q) r p

pub ruleset describing = (describe_wrong, describe_none, describe_is)

-- by version and type
module _ (m : List ℕ) (h : answer.Option Head) (a : Address) (from : ℕ) (by : Reached m h a from) where
  pub typed_none : h ≡ None → reading_in m (Err Unreadable) ≡ some (by_head m (head_in m))
  typed_none e =
      let z : cond (in_lines (drop from m)) None None ≡ head_in m = rw e at by.head in
      by_untyped m None (by_bool (in_lines (drop from m)) _ (λ f. rw f at z) (λ f. rw f at z)) refl

  module _ (k : Head) (e : h ≡ Some k) where
    pub typed_version : (k.version ≡ 1 → ⊥) → TypeAlone m k from
    unfolding by_head
    typed_version f = record { head = rw e at by.head; alone = rw (ne_eqb k.version 1 f) }

    module _ (one : k.version ≡ 1) (t : Bool) (says : t ≡ is_described k.kind) where
      pub typed_type : t ≡ false → TypeAlone m k from
      unfolding by_head
      typed_type f =
          let g : is_described k.kind ≡ false = sym says ∙ f in
          record { head = rw e at by.head; alone = rw (eq-eqb k.version 1 one, g) }

      pub typed_described : t ≡ true → Describes m k.kind a from
      typed_described f =
          let g : h ≡ Some (record { version = 1; kind = k.kind }) = e ∙ rw (← one) in
          record { reached = rw g at by; more = sym says ∙ f }

pub ruleset typeds = (typed_none, typed_version, typed_type, typed_described)

-- ---- the whole message
module _ (m : List ℕ) where
  pub read_long : most_read < length m → reading_in m (Err MessageTooLong) ≡ some (read_message m)
  unfolding reading_in read_message
  read_long h = rw (lt-leb (length m) most_read h)

  pub read_short : length m ≤ most_read → (r : Result Message Refusal) → reading_in m r ≡ some (by_head m (head_in m)) → reading_in m r ≡ some (read_message m)
  unfolding read_message
  read_short h r p = rw (le-leb (length m) most_read h) p

pub ruleset reading = (read_long, read_short)
