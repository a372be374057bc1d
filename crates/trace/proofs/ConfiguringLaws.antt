-- Laws of the lines that configure the endpoint, and of a trace as a whole.
-- Assumes nothing.
use Prim.Native.Nat.{ℕ}
use mathlib.Core.Path.{◌≡◌, refl, sym, ◌∙◌}
use mathlib.Core.List.{List, [], ◌∷◌}
use mathlib.Core.Bool.{Bool, true, false, not}
use mathlib.Core.Option.{Option, none}
use lib.ListN.{length}
use lib.Dec.{eqb}
use native.Mathlib.Omega.{arith}
use borrow.Author.Tests.{ne_eqb}
use Rattle.std.specs.Prelude as code
use Rattle.std.specs.Prelude.{Some, None, is_some}
use Rattle.octets.specs.Chain.{when}
use Rattle.octets.specs.declared.append.Cursor.{Cursor}
use Rattle.octets.specs.Append.{Pushes}
use Rattle.octets.proofs.AppendLaws as appending
use Rattle.book.specs.Book.{idle}
use Rattle.configuration.specs.declared.Codec.{Codec as Place}
use Rattle.configuration.specs.declared.Config.{Config}
use Rattle.configuration.specs.Configuration.{Codec, Configuration, entry_in}
use Rattle.configuration.specs.Meaning.{codecs_by, configuration_by, found_by, config_inside, FoundAt}
use Rattle.endpoint.specs.declared.Endpoint.{Endpoint}
use Rattle.endpoint.specs.Step.{book_of, new_endpoint}
use Rattle.trace_read.specs.Configuring.{is_codec_line, codec_in, general_in}
use Rattle.trace_read.specs.Meaning.{configured_by, Configures}
use Rattle.trace_write.specs.Lines.{header_line, refused_line}
use Rattle.trace_write.proofs.PushLaws.{pushes_then}
use Rattle.trace.specs.declared.Session.{Session}
use Rattle.trace.specs.declared.Session.TheVariants as session
use Rattle.trace.specs.Trace.{TraceLine, configuring, event_effect, configuring_effect, no_codec, first_effect, line_effect, ending}
use Rattle.trace.specs.Meaning.{trace_by, inside_by, Begins, Does}
use Rattle.trace.specs.Private.{Goes, Keeps}

-- nothing is pushed
pub pushes_nil : (c : Cursor) → Pushes c c []
pushes_nil c = record { lent = refl; appends = appending.append_nil c.out.now c.at }

pub begins_is : Begins session.Start
unfolding trace_by inside_by
begins_is = record { is = refl; inside = refl }

-- ---- a line of the configuration; g is what was read
module _ (g : code.Option Config) (c : Cursor) where
  pub kept_some : (x : Config) → g ≡ Some x → Keeps g c c (session.Configuring x)
  unfolding configuring_effect trace_by inside_by configured_by
  kept_some x q before z e room =
      let f : Configures before z (Some x) = rw q at e in
      rw (← f.is) (record { session = refl; printed = pushes_nil c; lent = refl; inside = f.inside })

  pub kept_none : (d : Cursor) → g ≡ None → Pushes c d refused_line → Keeps g c d session.Stopped
  unfolding configuring_effect trace_by inside_by configured_by
  kept_none d q p before z e room =
      let f : Configures before z None = rw q at e in
      rw (← f.is) (record { session = refl; printed = p; lent = refl; inside = λ h. refl })

pub ruleset keeping = (kept_some, kept_none)

-- no configuration was read
none_read : (before : Bool) → Configures before none None
unfolding configured_by
none_read before = record { is = refl; inside = λ h. tt }

module _ (before whole : Bool) (z : Option Configuration) (c d : Cursor) (r : Session) where
  pub whole_kept : (g : code.Option Config) → Configures before z g → whole ≡ true → Keeps g c d r → Goes before (when whole z) c d r
  whole_kept g e h k room = rw h (k before z e room)

  pub part_refused : whole ≡ false → Keeps None c d r → Goes before (when whole z) c d r
  part_refused h k room = rw h (k before none (none_read before) room)

-- ---- the first event
pub first_is : (c : Config) (e : Endpoint) (l : TraceLine) (room room' : List ℕ) (k g f : Cursor) (d : Bool) (r : Session) → e ≡ new_endpoint c
    → Does (config_inside e.config) (event_effect d (configuration_by e.config) (book_of e) 0 l room) room' g f r
    → Pushes k g header_line → Does (config_inside c) (first_effect d (configuration_by c) l room) room' k f r
unfolding first_effect
first_is c e l room room' k g f d r q x a =
    let y : Does (config_inside c) (event_effect d (configuration_by c) idle 0 l room) room' g f r = rw q at x in
    record { session = y.session; printed = pushes_then a y.printed; lent = y.lent; inside = y.inside }

-- ---- whether there is a codec
first_known : (ks : List Codec) (e : code.Option Place) → found_by e ≡ entry_in ks 1 → is_some e ≡ not (eqb (length ks) 0)
unfolding entry_in
first_known [] None h = refl
first_known [] (Some k) h = let y : ◌≡◌ {A = ℕ} 0 1 = cc in absurd (omega arith)
first_known (k ∷ ks) None h = let y : ◌≡◌ {A = ℕ} 0 1 = cc in absurd (omega arith)
first_known (k ∷ ks) (Some x) h = rw (ne_eqb (length (k ∷ ks)) 0 (λ q. omega arith))

pub codec_known : (c : Config) (e : code.Option Place) → FoundAt c 1 e → is_some e ≡ not (no_codec (configuration_by c))
unfolding configuration_by
codec_known c e h = first_known (codecs_by c) e h.is

not_true : (u b : Bool) → u ≡ not b → u ≡ true → b ≡ false
not_true u true e h = let z : false ≡ true = sym e ∙ h in let y : ◌≡◌ {A = ℕ} 0 1 = cc in absurd (omega arith)
not_true u false e h = refl

not_false : (u b : Bool) → u ≡ not b → u ≡ false → b ≡ true
not_false u true e h = refl
not_false u false e h = let z : true ≡ false = sym e ∙ h in let y : ◌≡◌ {A = ℕ} 0 1 = cc in absurd (omega arith)

-- ---- a line after the `G` line
module _ (c : Config) (l : TraceLine) (room room' : List ℕ) (k f : Cursor) (d t : Bool) (r : Session) (e : t ≡ is_codec_line l.text) where
  pub codec_line : t ≡ true → Goes (config_inside c) (when l.whole (codec_in (configuration_by c) l.text)) k f r
      → Does (config_inside c) (line_effect d (configuring (configuration_by c)) l room) room k f r
  unfolding line_effect
  codec_line h x = let z : is_codec_line l.text ≡ true = sym e ∙ h in rw z (x room)

  module _ (u : Bool) (q : u ≡ not (no_codec (configuration_by c))) where
    pub no_codec_lem : t ≡ false → u ≡ false → Keeps None k f r → Does (config_inside c) (line_effect d (configuring (configuration_by c)) l room) room k f r
    unfolding line_effect
    no_codec_lem h n x =
        let z : is_codec_line l.text ≡ false = sym e ∙ h in
        rw (z, not_false u (no_codec (configuration_by c)) q n) (x (config_inside c) none (none_read (config_inside c)) room)

    pub first_event : t ≡ false → u ≡ true → Does (config_inside c) (first_effect d (configuration_by c) l room) room' k f r
        → Does (config_inside c) (line_effect d (configuring (configuration_by c)) l room) room' k f r
    unfolding line_effect
    first_event h n x =
        let z : is_codec_line l.text ≡ false = sym e ∙ h in
        rw (z, not_true u (no_codec (configuration_by c)) q n) x

-- ---- the end of the input
module _ (c : Config) (u : Bool) (q : u ≡ not (no_codec (configuration_by c))) (k f : Cursor) where
  pub end_codecs : u ≡ true → Pushes k f header_line → Pushes k f (ending (configuring (configuration_by c)))
  unfolding ending
  end_codecs h a = rw (not_true u (no_codec (configuration_by c)) q h) a

  pub end_none : u ≡ false → Pushes k f refused_line → Pushes k f (ending (configuring (configuration_by c)))
  unfolding ending
  end_none h a = rw (not_false u (no_codec (configuration_by c)) q h) a

-- ---- a line, by what the lines before it have left
module _ (s : Session) (l : TraceLine) (room room' : List ℕ) (k f : Cursor) (d : Bool) (r : Session) where
  pub step_start : s ≡ session.Start → Goes true (when l.whole (general_in l.text)) k f r → Does (inside_by s) (line_effect d (trace_by s) l room) room k f r
  unfolding line_effect trace_by inside_by
  step_start h x = rw h (x room)

  pub step_configuring : (c : Config) → s ≡ session.Configuring c → Does (config_inside c) (line_effect d (configuring (configuration_by c)) l room) room' k f r
      → Does (inside_by s) (line_effect d (trace_by s) l room) room' k f r
  unfolding trace_by inside_by
  step_configuring c h x = rw h x

  pub step_running : (e : Endpoint) (n : ℕ) → s ≡ session.Running e n
      → Does (config_inside e.config) (event_effect d (configuration_by e.config) (book_of e) n l room) room' k f r
      → Does (inside_by s) (line_effect d (trace_by s) l room) room' k f r
  unfolding line_effect trace_by inside_by
  step_running e n h x = rw h x

pub step_stopped : (s : Session) (l : TraceLine) (room : List ℕ) (k : Cursor) (d : Bool) → s ≡ session.Stopped
    → Does (inside_by s) (line_effect d (trace_by s) l room) room k k session.Stopped
unfolding line_effect trace_by inside_by
step_stopped s l room k d h = rw h (record { session = refl; printed = pushes_nil k; lent = refl; inside = λ b. b })

module _ (s : Session) (k f : Cursor) where
  pub end_start : s ≡ session.Start → Pushes k f refused_line → Pushes k f (ending (trace_by s))
  unfolding ending trace_by
  end_start h a = rw h a

  pub end_configuring : (c : Config) → s ≡ session.Configuring c → Pushes k f (ending (configuring (configuration_by c))) → Pushes k f (ending (trace_by s))
  unfolding trace_by
  end_configuring c h a = rw h a

pub end_running : (s : Session) (k : Cursor) (e : Endpoint) (n : ℕ) → s ≡ session.Running e n → Pushes k k (ending (trace_by s))
unfolding ending trace_by
end_running s k e n h = rw h (pushes_nil k)

pub end_stopped : (s : Session) (k : Cursor) → s ≡ session.Stopped → Pushes k k (ending (trace_by s))
unfolding ending trace_by
end_stopped s k h = rw h (pushes_nil k)
