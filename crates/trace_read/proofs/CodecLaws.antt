-- Laws of what a `K` line adds: a payload or a name at the front of its array, and an entry after those that a configuration has.
-- Assumes nothing.
use Prim.Native.Nat.{ℕ, ◌+◌, ◌≤◌, ◌<◌}
use mathlib.Core.Path.{◌≡◌, refl, sym, ◌∙◌}
use mathlib.Core.List.{List, [], ◌∷◌, ◌++◌, map, map-append}
use mathlib.Core.Bool.{Bool, true, false, ◌&&◌, and-false, and-eq-true_iff}
use mathlib.Core.Option.{Option-elim}
use lib.ListN.{length, take, set, replicate, length-map, length-take, length-replicate}
use lib.Seq.{take-append_seam, take-suc-set}
use lib.Dec.{leb, ltb}
use native.Mathlib.Numerals.{add-one}
use native.Mathlib.Omega.{arith}
use borrow.Author.Tests.{lt-ltb, le-ltb, le-leb, lt-leb, eq-eqb, ne_eqb}
use Rattle.std.specs.Prelude as code
use Rattle.std.specs.Prelude.{Some, None}
use Rattle.std.specs.Bool.{then_some}
use Rattle.octets.specs.Append.{put, Appends}
use Rattle.octets.specs.Decimal.{all_digits, shortest, read_number, on_number}
use Rattle.octets.specs.Text.{tab}
use Rattle.octets.specs.Split.{split_on, part_at, separators_of}
use Rattle.octets.specs.Words.{digit_run}
use Rattle.octets.proofs.AppendLaws.{append_room}
use Rattle.configuration.specs.declared.Codec.{Codec as Place}
use Rattle.configuration.specs.declared.Config.{Config}
use Rattle.configuration.specs.declared.Format.TheVariants.{Payload, Named}
use Rattle.configuration.specs.Configuration.{Codec, named, right_codec, most_name, most_codecs}
use Rattle.configuration.specs.Meaning.{format_by, codec_by, codecs_by, configuration_by, format_inside, all_formats_inside, config_inside}
use Rattle.configuration.proofs.EntryLaws.{length_codecs}
use Rattle.trace_read.specs.Configuring.{rightly, payload_of, codec_of, with_codec, added_to, codec_for}
use Rattle.trace_read.specs.Meaning.{configured_by, Configures}
use Rattle.trace_read.specs.Private.{Finds}
use Rattle.trace_read.proofs.FieldLaws.{fields_are}
use Rattle.trace_read.proofs.ConfigureLaws.{failed}

-- ---- a payload
module _ (t : List ℕ) (x : code.Option ℕ) (e : x ≡ read_number t) where
  pub payload_bad : (r : code.Option Place) → x ≡ None → r ≡ None → Finds (payload_of t) r
  unfolding payload_of on_number
  payload_bad r q f = rw f (record { is = rw (← e, q); inside = tt })

  pub payload_large : (n : ℕ) → x ≡ Some n → 95 < n → Finds (payload_of t) None
  unfolding payload_of on_number rightly right_codec
  payload_large n q l = record { is = rw (← e, q, lt-leb n 95 l); inside = tt }

  pub payload_is : (n : ℕ) (name : List ℕ) → x ≡ Some n → n ≤ 95 → Finds (payload_of t) (Some (record { format = Payload n; name = name }))
  unfolding payload_of on_number rightly right_codec format_by format_inside
  payload_is n name q l = record { is = rw (← e, q, le-leb n 95 l); inside = refl }

pub ruleset payloads = (payload_bad, payload_large, payload_is)

-- ---- a name
pub name_long : (t : List ℕ) → most_name < length t → Finds (rightly (named t)) None
unfolding rightly right_codec
name_long t l = record { is = rw (lt-leb (length t) most_name l, and-false (leb 1 (length t))); inside = tt }

name_front : (t l f : List ℕ) (k : ℕ) → Appends l 0 t k f → length t ≤ length l → take (length t) f ≡ t
unfolding put
name_front t l f k a h = rw (append_room l f 0 t k a (omega arith)).1 (take-append_seam t _)

pub name_is : (t f : List ℕ) (k : ℕ) (u : Bool) → Appends (replicate most_name 0) 0 t k f → length t ≤ most_name
    → u ≡ (format_inside (Named (length t)) && right_codec (format_by (Named (length t)) f))
    → Finds (rightly (named t)) (then_some u (record { format = Named (length t); name = f }))
unfolding format_inside format_by rightly
name_is t f k u a h r =
    let z : length (replicate {A = ℕ} most_name 0) ≡ most_name = length-replicate {A = ℕ} most_name 0 in
    let e : take (length t) f ≡ t = name_front t (replicate most_name 0) f k a (omega arith) in
    let v : u ≡ right_codec (named t) = rw (le-leb (length t) most_name h, e) at r in
    go u v e
  where
    go : (b : Bool) → b ≡ right_codec (named t) → take (length t) f ≡ t → Finds (rightly (named t)) (then_some b (record { format = Named (length t); name = f }))
    go true v e = record { is = rw (e, ← v); inside = le-leb (length t) most_name h }
    go false v e = record { is = rw (← v); inside = tt }

pub ruleset names = (name_long, name_is)

-- ---- either
-- the empty text is neither
none_run : (t : List ℕ) → digit_run t ≡ false → rightly (named t) ≡ codec_of t
unfolding digit_run codec_of rightly right_codec payload_of on_number read_number shortest all_digits
none_run [] d = refl
none_run (b ∷ bs) d =
    let k : all_digits (b ∷ bs) ≡ false = rw (lt-ltb 0 (length (b ∷ bs)) (omega arith)) at d in
    rw k

module _ (t : List ℕ) (r : code.Option Place) (u : Bool) (e : u ≡ digit_run t) where
  pub codec_payload : u ≡ true → Finds (payload_of t) r → Finds (codec_of t) r
  unfolding codec_of digit_run
  codec_payload q f =
      let d : all_digits t ≡ true = ((and-eq-true_iff (ltb 0 (length t)) (all_digits t)).0 (sym e ∙ q)).1 in
      record { is = rw d f.is; inside = f.inside }

  pub codec_name : u ≡ false → Finds (rightly (named t)) r → Finds (codec_of t) r
  codec_name q f = record { is = f.is ∙ none_run t (sym e ∙ q); inside = f.inside }

pub ruleset eithers = (codec_payload, codec_name)

-- ---- one entry more
inside_snoc : (ks : List Place) (k : Place) → all_formats_inside ks ≡ true → format_inside k.format ≡ true → all_formats_inside (ks ++ (k ∷ [])) ≡ true
unfolding all_formats_inside
inside_snoc [] k h f = rw f
inside_snoc (j ∷ ks) k h f =
    let (a, b) = (and-eq-true_iff (format_inside j.format) (all_formats_inside ks)).0 h in
    rw (a, inside_snoc ks k b f)

module _ (c : Config) (entries : length c.codecs ≡ 8) where
  pub added_full : (b : Bool) (r : code.Option Config) (k : Codec) → 8 ≤ c.count → r ≡ None → Configures b (added_to (configuration_by c) k) r
  unfolding added_to configuration_by
  added_full b r k h f = failed b _ r f (rw (le-ltb (length (codecs_by c)) 8 (omega (arith, length_codecs c, entries))))

  pub added_is : (k : Place) → c.count < 8
      → Configures (config_inside c && format_inside k.format) (added_to (configuration_by c) (codec_by k))
      (Some (record {
        own = c.own;
        port = c.port;
        least = c.least;
        most = c.most;
        t1 = c.t1;
        t2 = c.t2;
        count = c.count + 1;
        codecs = set c.codecs c.count k;
      }))
  unfolding configured_by added_to configuration_by with_codec codecs_by config_inside
  added_is k h =
      let l : c.count < length c.codecs = omega (arith, entries) in
      record {
        is = rw (lt-ltb (length (map codec_by (take c.count c.codecs))) 8 (omega (arith, length-map (take c.count c.codecs) codec_by, length-take c.count c.codecs)), add-one, take-suc-set c.codecs c.count k l, map-append);
        inside = λ b.
            let (x, f) = (and-eq-true_iff (leb c.count most_codecs && all_formats_inside (take c.count c.codecs)) (format_inside k.format)).0 b in
            let (_, y) = (and-eq-true_iff (leb c.count most_codecs) (all_formats_inside (take c.count c.codecs))).0 x in
            rw (le-leb (c.count + 1) most_codecs (omega arith), add-one, take-suc-set c.codecs c.count k l) (inside_snoc (take c.count c.codecs) k y f);
      }

pub ruleset adds = (added_full, added_is)

-- ---- the line
module _ (c : Config) (s : List ℕ) (r : code.Option Config) (n : ℕ) (q : n ≡ separators_of tab s) where
  pub line_fields : (n ≡ 1 → ⊥) → r ≡ None → Configures (config_inside c) (codec_for (configuration_by c) (split_on tab s)) r
  unfolding codec_for
  line_fields k f = let l = fields_are s n q in failed (config_inside c) _ r f (rw (ne_eqb (length (split_on tab s)) 2 (λ e. k (omega arith))))

  module _ (p : List ℕ) (e : p ≡ part_at 1 (split_on tab s)) (i : n ≡ 1) where
    pub line_codec : (x : Place) → Finds (codec_of p) (Some x) → Configures (config_inside c && format_inside x.format) (added_to (configuration_by c) (codec_by x)) r
        → Configures (config_inside c) (codec_for (configuration_by c) (split_on tab s)) r
    unfolding codec_for Option-elim
    line_codec x g f =
        let l = fields_are s n q in
        record {
          is = rw (eq-eqb (length (split_on tab s)) 2 (omega arith), ← e, ← g.is) f.is;
          inside = λ b. f.inside (rw (b, g.inside));
        }

    pub line_none : Finds (codec_of p) None → r ≡ None → Configures (config_inside c) (codec_for (configuration_by c) (split_on tab s)) r
    unfolding codec_for Option-elim
    line_none g f = let l = fields_are s n q in failed (config_inside c) _ r f (rw (eq-eqb (length (split_on tab s)) 2 (omega arith), ← e, ← g.is))

pub ruleset codec_lines = (line_fields, line_codec, line_none)
