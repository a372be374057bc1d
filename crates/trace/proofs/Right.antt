-- Whatever lines come, an endpoint that a trace runs has a valid configuration: each line of the configuration is checked when it
-- comes, and the first event is given to an endpoint only if there is a codec.
-- Assumes nothing.
use Prim.Native.Nat.{ℕ}
use mathlib.Core.Path.{◌≡◌, refl, subst}
use mathlib.Core.List.{List, [], ◌∷◌, ◌++◌}
use mathlib.Core.Bool.{Bool, true, false, ◌&&◌, cond}
use mathlib.Core.Option.{Option, none, some, Option-elim}
use lib.ListN.{length, length-append}
use lib.Dec.{eqb, ltb}
use native.Mathlib.Omega.{arith}
use borrow.Author.Tests.{le-leb, ltb-true, eqb-false}
use Rattle.octets.specs.Chain.{when}
use Rattle.std.specs.Prelude as code
use Rattle.std.specs.Prelude.{Some, None}
use Rattle.octets.specs.declared.append.Cursor.{Cursor}
use Rattle.octets.specs.Decimal.{all_digits, read_number, on_number}
use Rattle.octets.specs.Split.{part_at}
use Rattle.octets.proofs.CaseLaws.{by_bool}
use Rattle.address.specs.declared.Address.{Address}
use Rattle.address.specs.Kinds.{on_address}
use Rattle.configuration.specs.Configuration.{Codec, fixed, named, Configuration, most_codecs, right_codec, all_right, right_codecs, right_general, right_configuration}
use Rattle.trace_read.specs.Configuring.{either_family, general, usable, general_fields, general_of, general_in, rightly, payload_of, codec_of, with_codec, added_to, codec_for, codec_in, is_codec_line}
use Rattle.trace_read.specs.Words.{fields_of, first_is, general_word}
use Rattle.trace.specs.declared.Session.{Session}
use Rattle.trace.specs.declared.Session.TheVariants.{Running}
use Rattle.trace.specs.Trace.{Trace, start, configuring, running, stopped, TraceLine, verdict_effect, event_effect, configuring_effect, no_codec, first_effect, line_effect}
use Rattle.configuration.specs.Meaning.{configuration_by, right_config}
use Rattle.endpoint.specs.declared.Endpoint.{Endpoint}
use Rattle.trace.specs.Meaning.{trace_by, inside_by, Begins, Does}
use Rattle.trace.specs.Right.{Begun, Right, Sound}

-- ---- what holds of x, if there is an x
record Each {A : Type 0} (P : A → Type 0) (x : Option A) : Type 0 where
  holds : (y : A) → x ≡ some y → P y

module _ {A : Type 0} (P : A → Type 0) where
  each_none : Each P none
  each_none = record { holds = λ y e. (let z : ◌≡◌ {A = ℕ} 0 1 = cc in absurd (omega arith)) }

  each_some : (x : A) → P x → Each P (some x)
  each_some x h = record { holds = λ y e. subst P (some_same x y e) h }
    where
      some_same : (x y : A) → some x ≡ some y → x ≡ y
      some_same x y e = cc

  each_cond : (b : Bool) (x : Option A) → Each P x → Each P (cond b x none)
  each_cond true x h = h
  each_cond false x h = each_none

  each_either : (b : Bool) (x y : Option A) → Each P x → Each P y → Each P (cond b x y)
  each_either true x y h k = h
  each_either false x y h k = k

  each_right : (b : Bool) (x : A) → (b ≡ true → P x) → Each P (cond b (some x) none)
  each_right true x h = each_some x (h refl)
  each_right false x h = each_none

  each_number : (y : code.Option ℕ) (f : ℕ → Option A) → ((n : ℕ) → Each P (f n)) → Each P (on_number y f none)
  unfolding on_number
  each_number (Some n) f h = h n
  each_number None f h = each_none

  each_address : (y : code.Option Address) (f : Address → Option A) → ((a : Address) → Each P (f a)) → Each P (on_address y f none)
  unfolding on_address
  each_address (Some a) f h = h a
  each_address None f h = each_none

-- ---- the `G` line
usable_begun : (own : Address) (port least most t1 t2 : ℕ) → Each Begun (usable (general own port least most t1 t2))
unfolding usable general all_right
usable_begun own port least most t1 t2 =
    each_right Begun (right_general (general own port least most t1 t2)) (general own port least most t1 t2)
    (λ h. record { general = h; codecs = refl; few = omega arith })

general_begun : (s : List ℕ) → Each Begun (general_in s)
unfolding general_of general_fields
general_begun s =
    each_cond Begun (eqb (length (fields_of s)) 7 && first_is general_word (fields_of s)) _
    (each_address Begun (either_family (part_at 1 (fields_of s))) _
    (λ own. each_number Begun (read_number (part_at 2 (fields_of s))) _
    (λ port. each_number Begun (read_number (part_at 3 (fields_of s))) _
    (λ least. each_number Begun (read_number (part_at 4 (fields_of s))) _
    (λ most. each_number Begun (read_number (part_at 5 (fields_of s))) _
    (λ t1. each_number Begun (read_number (part_at 6 (fields_of s))) _
    (λ t2. usable_begun own port least most t1 t2)))))))

-- ---- a `K` line
abbrev RightCodec : Codec → Type 0
RightCodec k = right_codec k ≡ true

codec_right : (t : List ℕ) → Each RightCodec (codec_of t)
unfolding codec_of payload_of rightly
codec_right t =
    each_either RightCodec (all_digits t) _ _
    (each_number RightCodec (read_number t) _ (λ n. each_right RightCodec (right_codec (fixed n)) (fixed n) (λ h. h)))
    (each_right RightCodec (right_codec (named t)) (named t) (λ h. h))

all_more : (ks : List Codec) (k : Codec) → all_right ks ≡ true → right_codec k ≡ true → all_right (ks ++ (k ∷ [])) ≡ true
unfolding all_right
all_more [] k h e = rw e
all_more (j ∷ ks) k h e =
    by_bool (right_codec j) _
    (λ p. rw p (all_more ks k (rw p at h) e))
    (λ p. rw p (rw p at h))

added_begun : (c : Configuration) (k : Codec) → Begun c → right_codec k ≡ true → Each Begun (added_to c k)
unfolding added_to with_codec right_general
added_begun c k b e =
    each_right Begun (ltb (length c.codecs) most_codecs) (with_codec c k)
    (λ h. record { general = b.general; codecs = all_more c.codecs k b.codecs e; few = rw length-append (omega (arith, ltb-true (length c.codecs) most_codecs h)) })

each_elim : (c : Configuration) → Begun c → (x : Option Codec) → Each RightCodec x → Each Begun (Option-elim x none (added_to c))
unfolding Option-elim
each_elim c b none h = each_none Begun
each_elim c b (some k) h = added_begun c k b (h.holds k refl)

codec_begun : (c : Configuration) (s : List ℕ) → Begun c → Each Begun (codec_in c s)
unfolding codec_for
codec_begun c s b = each_cond Begun (eqb (length (fields_of s)) 2) _ (each_elim c b (codec_of (part_at 1 (fields_of s))) (codec_right (part_at 1 (fields_of s))))

-- ---- the configuration goes on, or the first event comes
configuring_right : (room : List ℕ) (whole : Bool) (x : Option Configuration) → Each Begun x → Right (configuring_effect room (when whole x)).next
unfolding configuring_effect
configuring_right room false x h = tt
configuring_right room true none h = tt
configuring_right room true (some c) h = h.holds c refl

codecs_right : (c : Configuration) → Begun c → no_codec c ≡ false → right_configuration c ≡ true
unfolding right_configuration right_codecs
codecs_right c b h =
    let n : (length c.codecs ≡ 0 → ⊥) = eqb-false (length c.codecs) 0 h in
    rw (b.general, b.codecs, le-leb 1 (length c.codecs) (omega (arith, n)), le-leb (length c.codecs) most_codecs b.few)

first_right : (d : Bool) (c : Configuration) (l : TraceLine) (room : List ℕ) → Begun c
    → Right (cond (no_codec c) (configuring_effect room none) (first_effect d c l room)).next
unfolding configuring_effect first_effect event_effect verdict_effect
first_right d c l room b =
    by_bool (no_codec c) _
    (λ h. rw h tt)
    (λ h. rw h (codecs_right c b h))

-- ---- any line
pub trace_right : (d : Bool) (t : Trace) (l : TraceLine) (room : List ℕ) → Right t → Right (line_effect d t l room).next
unfolding line_effect event_effect verdict_effect
trace_right d start l room h = configuring_right room l.whole (general_in l.text) (general_begun l.text)
trace_right d (configuring c) l room h =
    by_bool (is_codec_line l.text) _
    (λ p. rw p (configuring_right room l.whole (codec_in c l.text) (codec_begun c l.text h)))
    (λ p. rw p (first_right d c l room h))
trace_right d (running c k n) l room h = h
trace_right d stopped l room h = tt

-- ---- of the code: a session is sound before its first line and after each, and once events come its endpoint has a configuration
-- that is not refused
pub begun_sound : (s : Session) → Begins s → Sound s
begun_sound s h = record { right = rw h.is tt; inside = h.inside }

pub step_sound : (s : Session) (d : Bool) (l : TraceLine) (room room' : List ℕ) (k f : Cursor) (r : Session) → Sound s
    → Does (inside_by s) (line_effect d (trace_by s) l room) room' k f r → Sound r
step_sound s d l room room' k f r h x =
    record { right = rw x.session (trace_right d (trace_by s) l room h.right); inside = x.inside h.inside }

pub running_right : (e : Endpoint) (n : ℕ) → Sound (Running e n) → right_config e.config ≡ true
unfolding right_config trace_by inside_by
running_right e n h =
    let r : right_configuration (configuration_by e.config) ≡ true = h.right in
    rw (h.inside, r)
