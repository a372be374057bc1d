-- Why 447 octets are enough: no message for a media and a transport of twelve octets together, as audio and RTP/AVP are, is
-- longer. Its fields are in range, so each line has a greatest length, and these add up to 447.
-- Assumes nothing.
use Prim.Native.Nat.{ℕ, zero, suc, ◌+◌, ◌*◌, ◌/◌, ◌^◌, ◌≤◌, ◌<◌}
use mathlib.Core.Path.{◌≡◌, refl, ap}
use mathlib.Core.List.{List, [], ◌∷◌, ◌++◌, map}
use mathlib.Core.Bool.{true, and-eq-true_iff}
use lib.ListN.{length, length-append}
use native.Mathlib.Nat.{pow-suc}
use native.Mathlib.Omega.{arith}
use borrow.Author.Tests.{eq-eqb, ne_eqb}
use Rattle.octets.specs.Append.{width_from, number_text}
use Rattle.octets.proofs.AppendLaws.{width_one, width_suc, length_last}
use Rattle.octets.proofs.CaseLaws.{by_lt, by_eq}
use Rattle.sdp.specs.Written.{line_text, lines_text}
use Rattle.address.specs.declared.Address.{Address}
use Rattle.address.specs.declared.Address.TheVariants.{V4, V6}
use Rattle.address.proofs.Lengths.{length_address}
use Rattle.media.specs.Stream.{Stream, media_text, ptime_word, attribute_text, ptime_text, rtpmap_lines, fmtp_text, fmtp_lines, octets_together}
use Rattle.media.proofs.LimitLaws.{together_append}
use Rattle.ipbcp.specs.declared.MessageType.{MessageType}
use Rattle.ipbcp.specs.declared.MessageType.TheVariants.{Request, Accepted, Confused, Rejected}
use Rattle.ipbcp.specs.Types.{type_word}
use Rattle.ipbcp.specs.Writing.{Content, request_content, accepted_content, confused_content, rejected_content, family_word, host_text, version_text, origin_text, session_text, connection_text, time_text, ipbcp_text, ptime_lines, stream_lines, content_type, media_lines, message_lines, message_text, right_media, right_attributes, right_content, most_written, voice}
use Rattle.ipbcp.proofs.WrittenLaws.{media_parts, attribute_parts}

-- ---- numbers
width_few : (k e n : ℕ) → n < 10 ^ suc k → width_from e n ≤ suc k
unfolding width_from
width_few k zero n h = omega arith
width_few zero (suc e) n h = let g : n < 10 ^ 0 * 10 = rw pow-suc at h in rw (width_one (suc e) n (let z : 10 ^ 0 ≡ 1 = refl in omega arith)) (omega arith)
width_few (suc k) (suc e) n h =
    by_lt n 10 _
    (λ l. rw (width_one (suc e) n l) (omega arith))
    (λ l. let g : n < 10 ^ suc k * 10 = rw pow-suc at h in
    let r = width_few k e (n / 10) (omega arith) in
    rw (width_suc e n l) (omega arith))

pub number_few : (k n : ℕ) → n < 10 ^ suc k → length (number_text n) ≤ suc k
unfolding number_text
number_few k n h = rw (length_last (width_from 19 n) n) (width_few k 19 n h)

-- ---- lines, each with its CRLF
length_lines : (ts : List (List ℕ)) → length (lines_text ts) ≡ octets_together ts + 2 * length ts
unfolding lines_text line_text octets_together
length_lines [] = refl
length_lines (t ∷ ts) =
    let a = length-append (t ++ (13 ∷ 10 ∷ [])) (lines_text ts) in
    let b = length-append t (13 ∷ 10 ∷ []) in
    let c = length_lines ts in
    omega arith

length_host : (a : Address) → length (host_text a) ≤ 46
unfolding host_text family_word
length_host (V4 n) = omega (arith, length_address (V4 n))
length_host (V6 h l) = omega (arith, length_address (V6 h l))

length_word : (k : MessageType) → length (type_word k) ≤ 8
unfolding type_word
length_word Request = omega arith
length_word Accepted = omega arith
length_word Confused = omega arith
length_word Rejected = omega arith

-- ---- the media line and its attributes
module _ (s : Stream) (h : right_media s ≡ true) (k : right_attributes s ≡ true) (short : length s.media + length s.transport ≤ 12) where
  length_media : length (media_text s) ≤ 23
  unfolding media_text
  length_media =
      let (_, _, port, _, payload) = media_parts s h in
      let a = length-append s.media (32 ∷ (number_text s.port ++ (32 ∷ (s.transport ++ (32 ∷ number_text s.payload))))) in
      let b = length-append (number_text s.port) (32 ∷ (s.transport ++ (32 ∷ number_text s.payload))) in
      let c = length-append s.transport (32 ∷ number_text s.payload) in
      let p = number_few 4 s.port (let z : 10 ^ 5 ≡ 100000 = refl in omega arith) in
      let q = number_few 2 s.payload (let z : 10 ^ 3 ≡ 1000 = refl in omega arith) in
      omega arith

  rtpmap_one : length (rtpmap_lines s) ≤ 1
  unfolding rtpmap_lines
  rtpmap_one =
      by_eq (length s.rtpmap) 0 _
      (λ e. rw (eq-eqb (length s.rtpmap) 0 e) (omega arith))
      (λ e. rw (ne_eqb (length s.rtpmap) 0 e) (omega arith))

  length_map : (ts : List (List ℕ)) → length (map fmtp_text ts) ≡ length ts
  length_map [] = refl
  length_map (t ∷ ts) = ap (λ (n : ℕ). suc n) (length_map ts)

  length_ptime : length (lines_text (ptime_lines s.ptime)) ≤ 13
  unfolding ptime_lines ptime_text attribute_text lines_text line_text
  length_ptime =
      let (_, _, _, most, _) = attribute_parts s k in
      let p = number_few 2 s.ptime (let z : 10 ^ 3 ≡ 1000 = refl in omega arith) in
      let a = length-append (97 ∷ 61 ∷ (ptime_word ++ number_text s.ptime)) (13 ∷ 10 ∷ []) in
      let b = length-append ((97 ∷ 61 ∷ (ptime_word ++ number_text s.ptime)) ++ (13 ∷ 10 ∷ [])) [] in
      by_eq s.ptime 0 _
      (λ e. rw (eq-eqb s.ptime 0 e) (omega arith))
      (λ e. rw (ne_eqb s.ptime 0 e) (omega arith))

  length_stream : length (lines_text (stream_lines s)) ≤ 304
  unfolding stream_lines fmtp_lines octets_together
  length_stream =
      let (_, few, _, _, all) = attribute_parts s k in
      let ms = rtpmap_lines s in
      let fs = map fmtp_text s.fmtp in
      let ps = ptime_lines s.ptime in
      let a = length_lines ((109 ∷ 61 ∷ media_text s) ∷ (ms ++ (fs ++ ps))) in
      let b = together_append ms (fs ++ ps) in
      let c = together_append fs ps in
      let d = together_append ms fs in
      let e = length_lines ps in
      let f = length-append ms (fs ++ ps) in
      let g = length-append fs ps in
      omega (arith, length_media, rtpmap_one, length_map s.fmtp, length_ptime)

length_opening : (own : Address) (k : MessageType) (ts : List (List ℕ))
    → length (lines_text (version_text ∷ origin_text own ∷ session_text ∷ connection_text own ∷ time_text ∷ ipbcp_text k ∷ ts)) ≤ 143 + length (lines_text ts)
unfolding origin_text connection_text ipbcp_text octets_together
length_opening own k ts =
    let a = length_lines (version_text ∷ origin_text own ∷ session_text ∷ connection_text own ∷ time_text ∷ ipbcp_text k ∷ ts) in
    let b = length_lines ts in
    omega (arith, length_host own, length_word k)

-- Confused and Rejected are short; so is a Request or Accepted for audio and RTP/AVP: none of them is refused for its length.
pub length_bare : (own : Address) (k : MessageType) → length (lines_text (version_text ∷ origin_text own ∷ session_text ∷ connection_text own ∷ time_text ∷ ipbcp_text k ∷ [])) ≤ 143
unfolding lines_text
length_bare own k = omega (arith, length_opening own k [])

pub length_described : (own : Address) (k : MessageType) (s : Stream) → right_media s ≡ true → right_attributes s ≡ true → length s.media + length s.transport ≤ 12
    → length (lines_text (version_text ∷ origin_text own ∷ session_text ∷ connection_text own ∷ time_text ∷ ipbcp_text k ∷ stream_lines s)) ≤ most_written
length_described own k s h j l = omega (arith, length_opening own k (stream_lines s), length_stream s h j l)

pub length_message : (own : Address) (c : Content) → right_content c ≡ true → voice c → length (message_text own c) ≤ most_written
unfolding message_text message_lines media_lines content_type right_content voice
length_message own (request_content s) h v = let a = (and-eq-true_iff (right_media s) (right_attributes s)).0 h in length_described own Request s a.0 a.1 v
length_message own (accepted_content s) h v = let a = (and-eq-true_iff (right_media s) (right_attributes s)).0 h in length_described own Accepted s a.0 a.1 v
length_message own confused_content h v = omega (arith, length_bare own Confused)
length_message own rejected_content h v = omega (arith, length_bare own Rejected)
