-- The contents of constructors, inner element by inner element as the functions that read them go through them.
-- Assumes nothing.
use Prim.Native.Nat.{ℕ, ◌+◌, ◌≤◌, ◌<◌}
use mathlib.Core.Path.{◌≡◌, refl, sym, ap, ◌∙◌}
use mathlib.Core.List.{List, []}
use mathlib.Core.Bool.{Bool, true, false, ◌&&◌}
use mathlib.Core.Option.{none, some, map}
use lib.ListN.{length, drop, length-drop, drop_of_length-le}
use lib.Seq.{drop-drop}
use lib.Dec.{eqb}
use native.Mathlib.Omega.{arith}
use borrow.Author.Tests.{eq-eqb, ne_eqb}
use Rattle.std.specs.Prelude as std
use Rattle.std.specs.Prelude.{Result, Ok, Err, Some, None}
use Rattle.octets.specs.declared.Span.{Span}
use Rattle.bat.specs.declared.Frame.{Frame}
use Rattle.bat_read.specs.Code as code
use Rattle.bat.specs.Framing.{octet, whole, front, on_front, walk}
use Rattle.bat.specs.Values.{InnerCodec, codecs, signal, lasting, meant, decoded, unrecognised, Codecs, all_codecs, offence, with_single, on_codecs, right_single, single_codec, is_single, inner_codec, codec_then, codecs_in, codec_list_in, inner_type, inner_duration, sixteen_bits, right_type, is_type, is_duration, last_by, timed_by, signal_by, signal_in}
use Rattle.bat.specs.FramingMeaning.{whole_length, element_in, front_in, WholeLength}
use Rattle.bat.specs.ValueMeaning.{inner_type_in, inner_duration_in, value_inside, value_in, value_by, decoding_in}
use Rattle.bat.proofs.WalkLaws.{front_nil, front_ended, walk_ended, walk_unframed, walk_first}
use Rattle.bat.proofs.CountLaws.{frame_ended, frame_unframed, frame_is, frame_first, frame_length, ok_is}
use Rattle.bat_read.specs.Examining.{offence_of}
use Rattle.bat_read.specs.Private.{Stands}

-- ---- the kind of an inner element, by its identifier i and a test of its contents
module _ (s : List ℕ) (f : Frame) (i : ℕ) where
  inner_no : (t : Bool) → (f.identifier ≡ i → ⊥) → false ≡ (eqb f.identifier i && t)
  inner_no t h = rw (ne_eqb f.identifier i h)

  inner_by : (t : Bool) → f.identifier ≡ i → t ≡ (eqb f.identifier i && t)
  inner_by t h = rw (eq-eqb f.identifier i h)

module _ (s : List ℕ) (f : Frame) where
  pub single_no : (f.identifier ≡ 5 → ⊥) → false ≡ is_single (element_in s f)
  unfolding is_single element_in
  single_no h = inner_no s f 5 _ h

  pub type_no : (f.identifier ≡ 14 → ⊥) → false ≡ is_type (element_in s f)
  unfolding is_type element_in
  type_no h = inner_no s f 14 _ h

  pub duration_no : (f.identifier ≡ 15 → ⊥) → false ≡ is_duration (element_in s f)
  unfolding is_duration element_in
  duration_no h = inner_no s f 15 _ h

  module _ (c : List ℕ) (is : c ≡ (element_in s f).contents) (r : Bool) where
    pub single_by : f.identifier ≡ 5 → r ≡ right_single (single_codec c) → r ≡ is_single (element_in s f)
    unfolding is_single element_in
    single_by h e = e ∙ rw is (inner_by s f 5 _ h)

    pub type_by : f.identifier ≡ 14 → r ≡ right_type c → r ≡ is_type (element_in s f)
    unfolding is_type element_in
    type_by h e = e ∙ rw is (inner_by s f 14 _ h)

    pub duration_by : f.identifier ≡ 15 → r ≡ eqb (length c) 2 → r ≡ is_duration (element_in s f)
    unfolding is_duration element_in
    duration_by h e = e ∙ rw is (inner_by s f 15 _ h)

pub ruleset inners = (single_no, type_no, duration_no, single_by, type_by, duration_by)

-- ---- 4
abbrev pub codecs_at : ℕ → List ℕ → Codecs
codecs_at d s = walk codec_then offence (all_codecs []) d s

offence_with : (c : InnerCodec) (x : Codecs) → offence_of (with_single c x) ≡ offence_of x
unfolding offence_of with_single
offence_with c (all_codecs cs) = refl
offence_with c (offence d) = refl

-- where the codecs of s from a place on are at fault, by their distance from the front of s
unfoldable pub offence_at : ℕ → List ℕ → std.Option ℕ
offence_at at s = offence_of (codecs_at at (drop at s))

pub offence_start : (s : List ℕ) → offence_at 0 s ≡ offence_of (codecs_in s)
unfolding offence_at codecs_in
offence_start s = refl

module _ (s : List ℕ) (at : ℕ) (y : std.Option ℕ) (inv : offence_at at s ≡ y) where
  pub offence_end : length s ≤ at → None ≡ y
  unfolding offence_at offence_of
  offence_end h =
      let z : offence_of (codecs_at at []) ≡ y = rw (drop_of_length-le s {i = at} h) at inv in
      rw (walk_ended codec_then offence (all_codecs []) at [] front_nil) at z

  module _ (t : List ℕ) (here : t ≡ drop at s) (x : Result (std.Option Frame) code.Unframed) (is : front_in t x ≡ some (front t)) where
    here_at : offence_of (codecs_at at t) ≡ y
    unfolding offence_at
    here_at = rw (← here) at inv

    -- no place inside s is the end
    pub offence_short : x ≡ Ok None → at < length s → Some at ≡ y
    offence_short e h = absurd (omega (arith, length-drop at s, ap (λ (z : List ℕ). length z) here, ap (λ (z : List ℕ). length z) (front_ended t (frame_ended t x is e))))

    pub offence_unframed : (u : code.Unframed) → x ≡ Err u → Some at ≡ y
    unfolding offence_of
    offence_unframed u e = rw (walk_unframed codec_then offence (all_codecs []) at t (frame_unframed t x is u e)) at here_at

    module _ (f : Frame) (e : x ≡ Ok (Some f)) (b : Bool) (single : b ≡ is_single (element_in t f)) where
      pub offence_here : b ≡ false → Some at ≡ y
      unfolding offence_of codec_then
      offence_here h =
          let n : is_single (element_in t f) ≡ false = sym single ∙ h in
          let z = rw (walk_first codec_then offence (all_codecs []) at t (element_in t f) (drop (whole_length f) t) (frame_is t x is f e)) at here_at in
          rw n at z

      pub offence_more : b ≡ true → (w : ℕ) → WholeLength f w → offence_at (at + w) s ≡ y
      unfolding offence_at codec_then
      offence_more h w l =
          let n : is_single (element_in t f) ≡ true = sym single ∙ h in
          let z = rw (walk_first codec_then offence (all_codecs []) at t (element_in t f) (drop w t) (frame_first t x is f e w l), n) at here_at in
          let same : at + w ≡ at + length (whole (element_in t f)) = omega (arith, frame_length t x is f e w l) in
          rw (← drop-drop w at s, ← here, same) (sym (offence_with (inner_codec (element_in t f)) _) ∙ z)

pub ruleset offences = (offence_end, offence_short, offence_unframed, offence_here, offence_more, ok_is)

-- the whole list
module _ (s : List ℕ) where
  pub list_none : length s ≡ 0 → decoding_in s (Err (record { inner = None })) ≡ some (codec_list_in s)
  unfolding decoding_in codec_list_in
  list_none h = simp (eq-eqb (length s) 0 h)

  module _ (full : length s ≡ 0 → ⊥) (y : std.Option ℕ) (is : y ≡ offence_of (codecs_in s)) where
    list_by : some (codec_list_in s) ≡ some (on_codecs (codecs_in s) (λ cs. decoded (codecs cs)) (λ d. unrecognised (Some d)))
    unfolding codec_list_in
    list_by = simp (ne_eqb (length s) 0 full)

    pub list_offence : (d : ℕ) → y ≡ Some d → decoding_in s (Err (record { inner = Some d })) ≡ some (codec_list_in s)
    unfolding decoding_in offence_of on_codecs
    list_offence d e = go (codecs_in s) (sym is ∙ e) ∙ sym list_by
      where
        go : (x : Codecs) → offence_of x ≡ Some d → some (unrecognised (Some d)) ≡ some (on_codecs x (λ cs. decoded (codecs cs)) (λ d. unrecognised (Some d)))
        go (all_codecs cs) q = absurd (let z : ◌≡◌ {A = ℕ} 0 1 = cc in omega arith)
        go (offence k) q = let z : k ≡ d = cc in rw z

    pub list_codecs : (p : Span) → Stands s s p → y ≡ None → decoding_in s (Ok (code.Codecs p)) ≡ some (codec_list_in s)
    unfolding decoding_in value_in value_inside value_by offence_of on_codecs
    list_codecs p a e = rw (a.within, a.is) (go (codecs_in s) (sym is ∙ e)) ∙ sym list_by
      where
        go : (x : Codecs) → offence_of x ≡ None → map decoded (on_codecs x (λ cs. some (codecs cs)) (λ d. none)) ≡ some (on_codecs x (λ cs. decoded (codecs cs)) (λ d. unrecognised (Some d)))
        go (all_codecs cs) q = refl
        go (offence k) q = absurd (let z : ◌≡◌ {A = ℕ} 0 1 = cc in omega arith)

pub ruleset lists = (list_none, list_offence, list_codecs)

-- ---- 11
-- what comes after the 14, with f at the front of s; m is any slice, since the answer has no spans
module _ (k : code.InnerType) (d : ℕ) (s : List ℕ) (f : Frame) (b : Bool) (is : b ≡ is_duration (element_in s f)) (m : List ℕ) where
  pub last_no : b ≡ false → decoding_in m (Err (record { inner = Some d })) ≡ some (last_by (inner_type_in k) d (element_in s f) (drop (whole_length f) s))
  unfolding decoding_in last_by
  last_no h = let n : is_duration (element_in s f) ≡ false = sym is ∙ h in rw n

  module _ (yes : b ≡ true) (here : front_in s (Ok (Some f)) ≡ some (front s)) (w : ℕ) (l : WholeLength f w) where
    lasting_is : (n : ℕ) → n ≡ sixteen_bits (element_in s f).contents → some (decoded (signal (inner_type_in k) (lasting (meant f.compatibility) n))) ≡ some (decoded (signal (inner_type_in k) (inner_duration (element_in s f))))
    unfolding element_in
    lasting_is n q = rw q

    duration_is : is_duration (element_in s f) ≡ true
    duration_is = sym is ∙ yes

    pub last_more : w < length s → decoding_in m (Err (record { inner = Some (d + w) })) ≡ some (last_by (inner_type_in k) d (element_in s f) (drop (whole_length f) s))
    unfolding decoding_in last_by
    last_more h =
        let n : length (drop (whole_length f) s) ≡ 0 → ⊥ = λ e. omega (arith, length-drop (whole_length f) s, l.is) in
        rw (duration_is, ne_eqb (length (drop (whole_length f) s)) 0 n, ← frame_length s (Ok (Some f)) here f refl w l)

    pub last_whole : length s ≤ w → (c : List ℕ) → c ≡ (element_in s f).contents → (n : ℕ) → n ≡ sixteen_bits c
        → decoding_in m (Ok (code.Signal k (Some (record { compatibility = meant f.compatibility; duration = n })))) ≡ some (last_by (inner_type_in k) d (element_in s f) (drop (whole_length f) s))
    unfolding decoding_in value_in value_inside value_by inner_duration_in last_by
    last_whole h c e n p =
        let z : length (drop (whole_length f) s) ≡ 0 = omega (arith, length-drop (whole_length f) s, l.is) in
        let q : n ≡ sixteen_bits (element_in s f).contents = p ∙ rw e in
        rw (duration_is, eq-eqb (length (drop (whole_length f) s)) 0 z) (lasting_is n q)

pub ruleset lasts = (last_no, last_more, last_whole)

-- after the 14 comes s
module _ (k : code.InnerType) (d : ℕ) (s : List ℕ) (x : Result (std.Option Frame) code.Unframed) (is : front_in s x ≡ some (front s)) (m : List ℕ) where
  pub timed_ended : x ≡ Ok None → decoding_in m (Ok (code.Signal k None)) ≡ some (timed_by (inner_type_in k) d s)
  unfolding decoding_in value_in value_inside value_by inner_duration_in timed_by on_front
  timed_ended e = rw (frame_ended s x is e)

  pub timed_unframed : (u : code.Unframed) → x ≡ Err u → decoding_in m (Err (record { inner = Some d })) ≡ some (timed_by (inner_type_in k) d s)
  unfolding decoding_in timed_by on_front
  timed_unframed u e = rw (frame_unframed s x is u e)

  pub timed_last : (f : Frame) → x ≡ Ok (Some f) → (r : code.Decoding) → ((m : List ℕ) → decoding_in m r ≡ some (last_by (inner_type_in k) d (element_in s f) (drop (whole_length f) s)))
      → decoding_in m r ≡ some (timed_by (inner_type_in k) d s)
  unfolding timed_by on_front
  timed_last f e r p = rw (frame_is s x is f e) (p m)

-- the element f at the front of s is the 14, or should be
module _ (s : List ℕ) (f : Frame) (b : Bool) (is : b ≡ is_type (element_in s f)) where
  pub typed_no : b ≡ false → decoding_in s (Err (record { inner = Some 0 })) ≡ some (signal_by (element_in s f) (drop (whole_length f) s))
  unfolding decoding_in signal_by
  typed_no h = let n : is_type (element_in s f) ≡ false = sym is ∙ h in rw n

  kind_is : (n w : ℕ) (t : List ℕ) → n ≡ octet 0 (element_in s f).contents
      → some (timed_by (inner_type_in (record { compatibility = meant f.compatibility; kind = n })) w t) ≡ some (timed_by (inner_type (element_in s f)) w t)
  unfolding element_in
  kind_is n w t q = rw q

  pub typed_yes : b ≡ true → front_in s (Ok (Some f)) ≡ some (front s) → (w : ℕ) → WholeLength f w → (c : List ℕ) → c ≡ (element_in s f).contents → (n : ℕ) → n ≡ octet 0 c
      → (t : List ℕ) → t ≡ drop w s → (r : code.Decoding) → ((m : List ℕ) → decoding_in m r ≡ some (timed_by (inner_type_in (record { compatibility = meant f.compatibility; kind = n })) w t))
      → decoding_in s r ≡ some (signal_by (element_in s f) (drop (whole_length f) s))
  unfolding signal_by
  typed_yes h here w l c ci n ni t ti r p =
      let y : is_type (element_in s f) ≡ true = sym is ∙ h in
      let q : n ≡ octet 0 (element_in s f).contents = ni ∙ rw ci in
      rw (y, ← frame_length s (Ok (Some f)) here f refl w l, ← l.is, ← ti) (p s ∙ kind_is n w t q)

-- the whole signal
module _ (s : List ℕ) (x : Result (std.Option Frame) code.Unframed) (is : front_in s x ≡ some (front s)) where
  pub signal_ended : x ≡ Ok None → decoding_in s (Err (record { inner = None })) ≡ some (signal_in s)
  unfolding decoding_in signal_in on_front
  signal_ended e = rw (frame_ended s x is e)

  pub signal_unframed : (u : code.Unframed) → x ≡ Err u → decoding_in s (Err (record { inner = Some 0 })) ≡ some (signal_in s)
  unfolding decoding_in signal_in on_front
  signal_unframed u e = rw (frame_unframed s x is u e)

  pub signal_typed : (f : Frame) → x ≡ Ok (Some f) → (r : code.Decoding) → decoding_in s r ≡ some (signal_by (element_in s f) (drop (whole_length f) s)) → decoding_in s r ≡ some (signal_in s)
  unfolding signal_in on_front
  signal_typed f e r p = rw (frame_is s x is f e) p

pub ruleset signals = (signal_ended, signal_unframed, signal_typed)
