-- What an endpoint with a valid configuration has to write can be written: its own address is unicast, every field is in range, and no
-- message for audio over RTP/AVP is too long. So writing it is never refused.
-- Assumes nothing.
use Prim.Native.Nat.{ℕ, zero, suc, ◌+◌, ◌≤◌, ◌^◌}
use mathlib.Core.Path.{◌≡◌, refl, sym, ◌∙◌, ap, subst}
use mathlib.Core.List.{List, [], ◌∷◌, ◌++◌}
use mathlib.Core.Bool.{Bool, true, false, ◌&&◌, cond, and-eq-true_iff}
use mathlib.Core.Option.{Option, none, some, Option-elim, none-ne-some}
use lib.ListN.{length, length-append}
use lib.Dec.{eqb, leb}
use native.Mathlib.Omega.{arith}
use borrow.Author.Tests.{le-leb, lt-ltb, le-ltb, leb-true, eqb-true, eq-eqb, ne_eqb}
use Rattle.octets.specs.Append.{number_text}
use Rattle.octets.specs.Split.{has}
use Rattle.octets.specs.Words.{begins, same}
use Rattle.octets.proofs.CaseLaws.{by_eq, by_lt}
use Rattle.sdp.specs.Lines.{is_plain, all_plain}
use Rattle.address.specs.Kinds.{is_unicast}
use Rattle.media.specs.Stream.{Stream, attribute_text, rtpmap_text, rtpmap_lines, fmtp_lines, octets_together, attributes_fit, most_attributes}
use Rattle.ipbcp.specs.declared.MessageType.{MessageType}
use Rattle.ipbcp.specs.Reading.{described, read_message}
use Rattle.ipbcp.specs.Writing.{request_content, accepted_content, confused_content, rejected_content, message_text, is_token, all_texts_plain, right_media, right_attributes, right_content, message_octets, voice}
use Rattle.ipbcp.proofs.WrittenLaws.{media_parts, attribute_parts}
use Rattle.ipbcp.proofs.Lengths.{number_few}
use Rattle.ipbcp.proofs.ReadRange.{read_right, content_octets}
use Rattle.configuration.specs.Configuration.{Codec, fixed, named, Configuration, between, all_visible, right_codec, all_right, right_times, right_codecs, right_general, right_configuration, entry_in, suits, name_of, named_in, ptime_none_or_in_range, most_name}
use Rattle.bearer.specs.Bearer.{Bearer}
use Rattle.bearer.specs.Judging.{audio, rtp_avp, same_family, offered, commanded, unmoved, right_stream, right_request, nearest, restated, accepted_for}

-- ---- codec entries
visible_plain : (t : List ℕ) → all_visible t ≡ true → all_plain t ≡ true
unfolding all_visible all_plain is_plain
visible_plain [] h = refl
visible_plain (b ∷ bs) h =
    let (p, q) = (and-eq-true_iff (between 33 126 b) (all_visible bs)).0 h in
    let low = leb-true 33 b ((and-eq-true_iff (leb 33 b) (leb b 126)).0 p).0 in
    rw (ne_eqb b 0 (λ e. omega arith), ne_eqb b 13 (λ e. omega arith), ne_eqb b 10 (λ e. omega arith)) (visible_plain bs q)

name_right : (k : Codec) → right_codec k ≡ true → (all_plain (name_of k) ≡ true) × (length (name_of k) ≤ most_name)
unfolding right_codec name_of all_plain
name_right (fixed n) h = (refl, omega arith)
name_right (named t) h =
    let (p, q) = (and-eq-true_iff (between 1 most_name (length t)) (all_visible t)).0 h in
    (visible_plain t q, leb-true (length t) most_name ((and-eq-true_iff (leb 1 (length t)) (leb (length t) most_name)).0 p).1)

payload_most : (k : Codec) (payload : ℕ) → right_codec k ≡ true → suits k payload ≡ true → payload ≤ 127
unfolding right_codec suits
payload_most (fixed n) payload h s = omega (arith, leb-true n 95 h, eqb-true payload n s)
payload_most (named t) payload h s = leb-true payload 127 ((and-eq-true_iff (leb 96 payload) (leb payload 127)).0 s).1

entry_right : (ks : List Codec) (n : ℕ) (k : Codec) → all_right ks ≡ true → entry_in ks n ≡ some k → right_codec k ≡ true
unfolding all_right entry_in
entry_right ks zero k r e = absurd (none-ne-some k e)
entry_right [] (suc n) k r e = absurd (none-ne-some k e)
entry_right (j ∷ ks) (suc zero) k r e = let same : j ≡ k = cc in ap right_codec (sym same) ∙ ((and-eq-true_iff (right_codec j) (all_right ks)).0 r).0
entry_right (j ∷ ks) (suc (suc n)) k r e = entry_right ks (suc n) k ((and-eq-true_iff (right_codec j) (all_right ks)).0 r).1 e

-- the rtpmap line of an entry is short
rtpmap_few : (payload : ℕ) (t : List ℕ) → payload ≤ 127 → length t ≤ most_name → length (rtpmap_text payload t) ≤ 45
unfolding rtpmap_text attribute_text
rtpmap_few payload t p l =
    let a = length-append (number_text payload) (32 ∷ t) in
    let b = number_few 2 payload (let z : 10 ^ 3 ≡ 1000 = refl in omega arith) in
    omega arith

-- ---- what a right configuration is
module _ (c : Configuration) (h : right_configuration c ≡ true) where
  general : right_general c ≡ true
  unfolding right_configuration
  general = ((and-eq-true_iff (right_general c) _).0 h).0

  pub own_unicast : is_unicast c.own ≡ true
  unfolding right_general
  own_unicast = ((and-eq-true_iff (is_unicast c.own) _).0 general).0

  rest : (between 1 65535 c.port && (right_times c.least c.most && (between 1 30 c.t1 && between 1 30 c.t2))) ≡ true
  unfolding right_general
  rest = ((and-eq-true_iff (is_unicast c.own) _).0 general).1

  own_port : (1 ≤ c.port) × (c.port ≤ 65535)
  own_port =
      let a = ((and-eq-true_iff (between 1 65535 c.port) _).0 rest).0 in
      let b = (and-eq-true_iff (leb 1 c.port) (leb c.port 65535)).0 a in
      (leb-true 1 c.port b.0, leb-true c.port 65535 b.1)

  times : (c.least ≤ c.most) × (c.most ≤ 255)
  unfolding right_times
  times =
      let a = ((and-eq-true_iff (right_times c.least c.most) _).0 ((and-eq-true_iff (between 1 65535 c.port) _).0 rest).1).0 in
      let b = ((and-eq-true_iff (leb 1 c.least) (leb c.least c.most && leb c.most 255)).0 a).1 in
      let d = (and-eq-true_iff (leb c.least c.most) (leb c.most 255)).0 b in
      (leb-true c.least c.most d.0, leb-true c.most 255 d.1)

  codecs_right : all_right c.codecs ≡ true
  unfolding right_configuration right_codecs
  codecs_right =
      let a = ((and-eq-true_iff (right_general c) (right_codecs c.codecs)).0 h).1 in
      ((and-eq-true_iff (between 1 8 (length c.codecs)) (all_right c.codecs)).0 a).1

  -- a packet time that is moved into range is one
  nearest_most : (n : ℕ) → nearest c n ≤ 255
  unfolding nearest
  nearest_most n =
      let (least, most) = times in
      by_eq n 0 _
      (λ e. rw (eq-eqb n 0 e) (omega arith))
      (λ e. by_lt n c.least _
      (λ l. rw (ne_eqb n 0 e, lt-ltb n c.least l) (omega arith))
      (λ l. by_lt c.most n _
      (λ k. rw (ne_eqb n 0 e, le-ltb n c.least l, lt-ltb c.most n k) (omega arith))
      (λ k. rw (ne_eqb n 0 e, le-ltb n c.least l, le-ltb c.most n k) (omega arith))))

  -- one that a command names too
  named_most : (n : ℕ) → ptime_none_or_in_range c n ≡ true → n ≤ 255
  unfolding ptime_none_or_in_range
  named_most n e =
      let (least, most) = times in
      by_eq n 0 _ (λ z. omega arith)
      (λ z. let k : (leb c.least n && leb n c.most) ≡ true = rw (ne_eqb n 0 z) at e in
      let l = leb-true n c.most ((and-eq-true_iff (leb c.least n) (leb n c.most)).0 k).1 in omega arith)

  -- ---- Confused and Rejected
  pub confused_octets : message_octets c.own confused_content ≡ some (message_text c.own confused_content)
  unfolding right_content voice
  confused_octets = content_octets c.own confused_content own_unicast refl (omega arith)

  pub rejected_octets : message_octets c.own rejected_content ≡ some (message_text c.own rejected_content)
  unfolding right_content voice
  rejected_octets = content_octets c.own rejected_content own_unicast refl (omega arith)

  -- ---- our Request
  module _ (k : Codec) (payload ptime : ℕ) (right : right_codec k ≡ true) (suit : suits k payload ≡ true) (time : ptime_none_or_in_range c ptime ≡ true) where
    offered_media : right_media (offered c k payload ptime) ≡ true
    unfolding right_media offered is_token has all_plain is_plain
    offered_media =
        let (low, high) = own_port in
        rw (le-leb 1 c.port low, le-leb c.port 65535 high, le-leb payload 127 (payload_most k payload right suit))

    offered_fits : attributes_fit (offered c k payload ptime) ≡ true
    unfolding attributes_fit offered rtpmap_lines fmtp_lines octets_together
    offered_fits =
        let few = rtpmap_few payload (name_of k) (payload_most k payload right suit) (name_right k right).1 in
        by_eq (length (name_of k)) 0 _
        (λ e. rw (eq-eqb (length (name_of k)) 0 e))
        (λ e. rw (ne_eqb (length (name_of k)) 0 e) (le-leb (length (rtpmap_text payload (name_of k)) + 0) most_attributes (omega arith)))

    offered_attributes : right_attributes (offered c k payload ptime) ≡ true
    unfolding right_attributes offered all_texts_plain
    offered_attributes =
        let fits = offered_fits in
        rw ((name_right k right).0, le-leb ptime 255 (named_most ptime time)) fits

    offered_octets : message_octets c.own (request_content (offered c k payload ptime)) ≡ some (message_text c.own (request_content (offered c k payload ptime)))
    unfolding right_content voice offered
    offered_octets = content_octets c.own (request_content (offered c k payload ptime)) own_unicast (rw (offered_media, offered_attributes)) (omega arith)

  pub commanded_octets : (entry payload ptime : ℕ) (q : Stream) → commanded c entry payload ptime ≡ some q → message_octets c.own (request_content q) ≡ some (message_text c.own (request_content q))
  unfolding commanded Option-elim
  commanded_octets entry payload ptime q e = go (entry_in c.codecs entry) refl e
    where
      picked : (k : Codec) (t : Bool) → (suits k payload && ptime_none_or_in_range c ptime) ≡ t → right_codec k ≡ true
          → cond t (some (offered c k payload ptime)) none ≡ some q → message_octets c.own (request_content q) ≡ some (message_text c.own (request_content q))
      picked k true p r e =
          let (s, t) = (and-eq-true_iff (suits k payload) (ptime_none_or_in_range c ptime)).0 p in
          let same : offered c k payload ptime ≡ q = cc in
          subst (λ (x : Stream). message_octets c.own (request_content x) ≡ some (message_text c.own (request_content x))) same (offered_octets k payload ptime r s t)
      picked k false p r e = absurd (none-ne-some q e)

      go : (o : Option Codec) → entry_in c.codecs entry ≡ o
          → Option-elim o none (λ k. cond (suits k payload && ptime_none_or_in_range c ptime) (some (offered c k payload ptime)) none) ≡ some q
          → message_octets c.own (request_content q) ≡ some (message_text c.own (request_content q))
      go none p e = absurd (none-ne-some q e)
      go (some k) p e = picked k (suits k payload && ptime_none_or_in_range c ptime) refl (entry_right c.codecs entry k codecs_right p) e

  -- ---- our Accepted
  module _ (d : Bearer) (media : right_media d.stream ≡ true) (attributes : right_attributes d.stream ≡ true) where
    answer_media : right_media (accepted_for c d) ≡ true
    unfolding right_media accepted_for restated
    answer_media =
        let (low, high) = own_port in
        let (m, _, _, t, p) = media_parts d.stream media in
        rw (m, le-leb 1 c.port low, le-leb c.port 65535 high, t, le-leb d.stream.payload 127 p)

    answer_attributes : right_attributes (accepted_for c d) ≡ true
    unfolding right_attributes accepted_for restated attributes_fit rtpmap_lines fmtp_lines
    answer_attributes =
        let (r, f, p, _, l) = attribute_parts d.stream attributes in
        rw (r, le-leb (length d.stream.fmtp) 3 f, p, le-leb (nearest c d.stream.ptime) 255 (nearest_most d.stream.ptime))
        (le-leb (octets_together (rtpmap_lines d.stream ++ fmtp_lines d.stream)) most_attributes l)

  same_length : (w s : List ℕ) → same w s ≡ true → length s ≡ length w
  unfolding same
  same_length w s e = eqb-true (length s) (length w) ((and-eq-true_iff (eqb (length s) (length w)) (begins w s)).0 e).0

  request_short : (f : Option Bearer) (d : Bearer) → right_request c f d ≡ true → length d.stream.media + length d.stream.transport ≤ 12
  unfolding right_request right_stream
  request_short f d e =
      let a = ((and-eq-true_iff (right_stream c d.stream) (unmoved f d)).0 ((and-eq-true_iff (same_family c.own d.address) (right_stream c d.stream && unmoved f d)).0 e).1).0 in
      let (m, b) = (and-eq-true_iff (same audio d.stream.media) (same rtp_avp d.stream.transport && named_in c.codecs d.stream.payload d.stream.rtpmap)).0 a in
      let t = ((and-eq-true_iff (same rtp_avp d.stream.transport) (named_in c.codecs d.stream.payload d.stream.rtpmap)).0 b).0 in
      omega (arith, same_length audio d.stream.media m, same_length rtp_avp d.stream.transport t)

  -- the message m names d by a Request that is right
  pub answered_octets : (m : List ℕ) (k : MessageType) (f : Option Bearer) (d : Bearer) → read_message m ≡ described k d.address d.stream → right_request c f d ≡ true
      → message_octets c.own (accepted_content (accepted_for c d)) ≡ some (message_text c.own (accepted_content (accepted_for c d)))
  unfolding right_content voice accepted_for restated
  answered_octets m k f d e h =
      let (media, attributes) = read_right m k d.address d.stream e in
      content_octets c.own (accepted_content (accepted_for c d)) own_unicast (rw (answer_media d media attributes, answer_attributes d media attributes)) (request_short f d h)
