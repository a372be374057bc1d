-- Laws of commands: the two fixed words and the name fill the front of a Request's text, so each of its places has its text; and
-- what suits the configuration fits the Request's fields.
-- Assumes nothing.
use Prim.Native.Nat.{ℕ, ◌+◌, ◌-◌, ◌<◌, ◌≤◌}
use mir.Syntax.{w8}
use mir.Val.{Fits}
use mathlib.Core.Path.{◌≡◌, refl, sym, ◌∙◌, ap}
use mathlib.Core.List.{List, ◌++◌}
use mathlib.Core.Bool.{true, false, ◌&&◌, and-eq-true_iff}
use mathlib.Core.Option.{some, Option-elim}
use lib.ListN.{length, replicate, length-take, length-replicate}
use lib.Seq.{take_at}
use lib.Dec.{eqb, leb}
use native.Mathlib.Omega.{arith}
use borrow.Author.Tests.{le-leb, leb-true, eqb-true}
use Rattle.std.specs.Prelude.{Some, None}
use Rattle.octets.specs.Append.{put, next_of, Appends}
use Rattle.octets.specs.Spans.{text_of}
use Rattle.octets.proofs.AppendLaws.{append_more, append_room, length_appends}
use Rattle.octets.proofs.CaseLaws.{by_bool}
use Rattle.media.specs.declared.Stream.{Stream as Places}
use Rattle.media.specs.Meaning.{spans_of, texts_by, stream_by, all_in, stream_inside, bare_places}
use Rattle.configuration.specs.declared.Format.{Format}
use Rattle.configuration.specs.declared.Format.TheVariants.{Payload, Named}
use Rattle.configuration.specs.declared.Codec.{Codec as Place}
use Rattle.configuration.specs.declared.Config.{Config}
use Rattle.configuration.specs.Configuration.{entry_in, suits, name_of, ptime_none_or_in_range, most_name}
use Rattle.configuration.specs.Meaning.{format_by, codec_by, codecs_by, configuration_by, FoundAt}
use Rattle.bearer.specs.declared.Request.{Request}
use Rattle.bearer.specs.Judging.{audio, rtp_avp, offered, commanded}
use Rattle.bearer.specs.Meaning.{most_offered, request_by}
use Rattle.judge.specs.Commands.{Commands}
use Rattle.judge.specs.Private.{Offers}

-- ---- the Request for an entry
pub appends_low : (l f : List ℕ) (at : ℕ) (vs : List ℕ) (r : ℕ) → Appends l at vs r f → at ≤ r
unfolding next_of
appends_low l f at vs r p = omega (arith, p.next)

name_short : (f : Format) (name : List ℕ) → length (name_of (format_by f name)) ≤ length name
unfolding format_by name_of
name_short (Payload n) name = omega arith
name_short (Named n) name = simp length-take (omega arith)

-- the words, then a name t that is not too long; a and r are where the name begins and ends
module _ (z g f t : List ℕ) (a r : ℕ) (room : length z ≡ most_offered) (short : length t ≤ most_name) (p : Appends z 0 (audio ++ rtp_avp) a g) (q : Appends g a t r f) where
  name_length : r - a ≡ length t
  name_length =
      let (e, _) = append_room z g 0 (audio ++ rtp_avp) a p (omega arith) in
      let (h, _) = append_room g f a t r q (omega (arith, length_appends z g 0 (audio ++ rtp_avp) a p)) in
      omega arith

  text_whole : (w : List ℕ) × (f ≡ audio ++ (rtp_avp ++ (t ++ w)))
  unfolding put
  text_whole = (_, (append_room z f 0 (audio ++ rtp_avp ++ t) r (append_more z g f (audio ++ rtp_avp) t 0 a r p q) (omega arith)).1)

  length_whole : length f ≡ most_offered
  length_whole = length_appends g f a t r q ∙ length_appends z g 0 (audio ++ rtp_avp) a p ∙ room

-- a name's array has so many octets
module _ (k : Place) (array : length k.name ≡ most_name) where
  short_name : length (name_of (codec_by k)) ≤ most_name
  short_name = omega (arith, name_short k.format k.name)

  -- the words and the name were pushed into z, and h is what it then is
  pub offer_is : (port payload ptime a r o : ℕ) (z g f h : List ℕ) (s : Places) → s ≡ bare_places (record { at = 0; len = 5 }) port (record { at = 5; len = 7 }) payload
      → z ≡ replicate most_offered 0 → o ≡ 0 → Appends z o (audio ++ rtp_avp) a g → Appends g a (name_of (codec_by k)) r f → h ≡ f
      → Offers port (codec_by k) payload ptime (record {
        stream = record {
          media = s.media;
          port = s.port;
          transport = s.transport;
          payload = s.payload;
          rtpmap = record { at = 12; len = r - a };
          fmtp = s.fmtp;
          ptime = ptime;
        };
        text = h;
      })
  unfolding request_by stream_by stream_inside texts_by spans_of all_in text_of offered
  offer_is port payload ptime a r o z g f h s bare zeros start p q same =
      let t : List ℕ = name_of (codec_by k) in
      let room : length z ≡ most_offered = ap length zeros ∙ length-replicate {A = ℕ} most_offered 0 in
      let p' : Appends z 0 (audio ++ rtp_avp) a g = rw start at p in
      let n = name_length z g f t a r room short_name p' q in
      let (w, e) = text_whole z g f t a r room short_name p' q in
      let l = length_whole z g f t a r room short_name p' q in
      record {
        is = λ c i. rw (bare, same, e, n, i, take_at t w (length t) refl);
        inside = rw (bare, same, le-leb (0 + 5) (length f) (omega arith), le-leb (5 + 7) (length f) (omega arith), le-leb (12 + (r - a)) (length f) (omega (arith, short_name)));
      }

-- ---- a payload that suits the entry k
module _ (k : Place) (p : ℕ) (s : suits (codec_by k) p ≡ true) where
  pub payload_fixed : (n : ℕ) → k.format ≡ Payload n → n ≡ p
  unfolding format_by suits
  payload_fixed n q = let e : eqb p n ≡ true = rw q at s in sym (eqb-true p n e)

  pub payload_named : (n : ℕ) → k.format ≡ Named n → p < 256
  unfolding format_by suits
  payload_named n q =
      let e : (leb 96 p && leb p 127) ≡ true = rw q at s in
      omega (arith, leb-true p 127 ((and-eq-true_iff (leb 96 p) (leb p 127)).0 e).1)

-- ---- a packet time that is none or in range
pub time_fits : (c : Config) (t : ℕ) → ptime_none_or_in_range (configuration_by c) t ≡ true → Fits w8 c.most → t < 256
unfolding ptime_none_or_in_range configuration_by
time_fits c t h most =
    by_bool (eqb t 0) _
    (λ e. omega (arith, eqb-true t 0 e))
    (λ e. let r : (leb c.least t && leb t c.most) ≡ true = rw e at h in
    omega (arith, leb-true t c.most ((and-eq-true_iff (leb c.least t) (leb t c.most)).0 r).1))

-- ---- the command that names entry n, payload p and packet time t; r is the entry that was found
module _ (c : Config) (n p t : ℕ) where
  pub command_unknown : FoundAt c n None → Commands (configuration_by c) n p t None
  unfolding commanded configuration_by Option-elim
  command_unknown f = record { is = rw (sym f.is); inside = tt }

  module _ (k : Place) (f : FoundAt c n (Some k)) where
    found : entry_in (codecs_by c) n ≡ some (codec_by k)
    found = sym f.is

    pub command_suits : suits (codec_by k) p ≡ true → ptime_none_or_in_range (configuration_by c) t ≡ true → (q : Request) → Offers c.port (codec_by k) p t q
        → Commands (configuration_by c) n p t (Some q)
    unfolding commanded configuration_by Option-elim
    command_suits s r q o = record { is = rw (found, s, r, o.is (configuration_by c) refl); inside = o.inside }

    pub other_payload : suits (codec_by k) p ≡ false → Commands (configuration_by c) n p t None
    unfolding commanded configuration_by Option-elim
    other_payload s = record { is = rw (found, s); inside = tt }

    pub other_time : suits (codec_by k) p ≡ true → ptime_none_or_in_range (configuration_by c) t ≡ false → Commands (configuration_by c) n p t None
    unfolding commanded configuration_by Option-elim
    other_time s r = record { is = rw (found, s, r); inside = tt }
