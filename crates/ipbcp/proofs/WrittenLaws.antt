-- Each line of a written message is a line: none of its texts has an octet that ends a line, by its form or because it is in
-- range.
-- Assumes nothing.
use Prim.Native.Nat.{ℕ, ◌≤◌, ◌<◌}
use mathlib.Core.Path.{◌≡◌, refl, ◌∙◌}
use mathlib.Core.List.{List, [], ◌∷◌, ◌++◌, map}
use mathlib.Core.Bool.{Bool, true, false, not, ◌&&◌, ◌||◌, and-eq-true_iff}
use lib.ListN.{length}
use lib.Dec.{eqb, leb, ltb}
use native.Mathlib.Omega.{arith}
use borrow.Author.Tests.{leb-true, ltb-true}
use Rattle.octets.specs.Append.{number_text}
use Rattle.octets.specs.Split.{has}
use Rattle.octets.specs.Decimal.{is_digit}
use Rattle.octets.proofs.CaseLaws.{by_bool}
use Rattle.octets.proofs.RoundTrip.{number_has}
use Rattle.sdp.specs.Lines.{is_plain, all_plain, is_line, all_lines}
use Rattle.sdp.proofs.PlainLaws.{plain_append, line_is}
use Rattle.address.specs.declared.Address.{Address}
use Rattle.address.specs.declared.Address.TheVariants.{V4, V6}
use Rattle.address.specs.Canonical.{address_text}
use Rattle.address.proofs.Visible.{address_has}
use Rattle.media.specs.Stream.{Stream, media_text, rtpmap_word, fmtp_word, ptime_word, attribute_text, rtpmap_text, fmtp_text, ptime_text, rtpmap_lines, fmtp_lines, octets_together, attributes_fit, most_attributes}
use Rattle.ipbcp.specs.declared.MessageType.{MessageType}
use Rattle.ipbcp.specs.declared.MessageType.TheVariants.{Request, Accepted, Confused, Rejected}
use Rattle.ipbcp.specs.Types.{type_word}
use Rattle.ipbcp.specs.Writing.{Content, request_content, accepted_content, confused_content, rejected_content, family_word, host_text, version_text, origin_text, session_text, connection_text, time_text, ipbcp_text, ptime_lines, stream_lines, content_type, media_lines, message_lines, is_token, all_texts_plain, right_media, right_attributes, right_content}

-- ---- texts that are plain
or_no : (a b : Bool) → (a || b) ≡ false → (a ≡ false) × (b ≡ false)
or_no true b e = let z : ◌≡◌ {A = ℕ} 0 1 = cc in absurd (omega arith)
or_no false b e = (refl, e)

-- one without 0, CR and LF
plain_has : (s : List ℕ) → has 0 s ≡ false → has 13 s ≡ false → has 10 s ≡ false → all_plain s ≡ true
unfolding has all_plain is_plain
plain_has [] p q r = refl
plain_has (b ∷ bs) p q r =
    let (p0, p1) = or_no (eqb b 0) (has 0 bs) p in
    let (q0, q1) = or_no (eqb b 13) (has 13 bs) q in
    let (r0, r1) = or_no (eqb b 10) (has 10 bs) r in
    rw (p0, q0, r0, plain_has bs p1 q1 r1)

address_plain : (a : Address) → all_plain (address_text a) ≡ true
address_plain a = plain_has (address_text a) (address_has a 0 (omega arith)) (address_has a 13 (omega arith)) (address_has a 10 (omega arith))

number_plain : (n : ℕ) → all_plain (number_text n) ≡ true
unfolding is_digit
number_plain n = plain_has (number_text n) (number_has 0 n refl) (number_has 13 n refl) (number_has 10 n refl)

host_plain : (a : Address) → all_plain (host_text a) ≡ true
unfolding host_text family_word all_plain is_plain
host_plain (V4 n) = address_plain (V4 n)
host_plain (V6 h l) = address_plain (V6 h l)

-- ---- a right stream
module _ (s : Stream) (h : right_media s ≡ true) where
  pub media_parts : (is_token s.media ≡ true) × (1 ≤ s.port) × (s.port ≤ 65535) × (is_token s.transport ≡ true) × (s.payload ≤ 127)
  unfolding right_media
  media_parts =
      let a = (and-eq-true_iff (is_token s.media) (leb 1 s.port && (leb s.port 65535 && (is_token s.transport && leb s.payload 127)))).0 h in
      let b = (and-eq-true_iff (leb 1 s.port) (leb s.port 65535 && (is_token s.transport && leb s.payload 127))).0 a.1 in
      let c = (and-eq-true_iff (leb s.port 65535) (is_token s.transport && leb s.payload 127)).0 b.1 in
      let d = (and-eq-true_iff (is_token s.transport) (leb s.payload 127)).0 c.1 in
      (a.0, leb-true 1 s.port b.0, leb-true s.port 65535 c.0, d.0, leb-true s.payload 127 d.1)

not_true : (b : Bool) → not b ≡ true → b ≡ false
not_true true e = let z : ◌≡◌ {A = ℕ} 0 1 = cc in absurd (omega arith)
not_true false e = refl

pub token_parts : (t : List ℕ) → is_token t ≡ true → (0 < length t) × (has 32 t ≡ false) × (all_plain t ≡ true)
unfolding is_token
token_parts t h =
    let a = (and-eq-true_iff (ltb 0 (length t)) (not (has 32 t) && all_plain t)).0 h in
    let b = (and-eq-true_iff (not (has 32 t)) (all_plain t)).0 a.1 in
    (ltb-true 0 (length t) a.0, not_true (has 32 t) b.0, b.1)

module _ (s : Stream) (h : right_attributes s ≡ true) where
  pub attribute_parts : (all_plain s.rtpmap ≡ true) × (length s.fmtp ≤ 3) × (all_texts_plain s.fmtp ≡ true) × (s.ptime ≤ 255) × (octets_together (rtpmap_lines s ++ fmtp_lines s) ≤ most_attributes)
  unfolding right_attributes attributes_fit
  attribute_parts =
      let fit = leb (octets_together (rtpmap_lines s ++ fmtp_lines s)) most_attributes in
      let a = (and-eq-true_iff (all_plain s.rtpmap) (leb (length s.fmtp) 3 && (all_texts_plain s.fmtp && (leb s.ptime 255 && fit)))).0 h in
      let b = (and-eq-true_iff (leb (length s.fmtp) 3) (all_texts_plain s.fmtp && (leb s.ptime 255 && fit))).0 a.1 in
      let c = (and-eq-true_iff (all_texts_plain s.fmtp) (leb s.ptime 255 && fit)).0 b.1 in
      let d = (and-eq-true_iff (leb s.ptime 255) fit).0 c.1 in
      (a.0, leb-true (length s.fmtp) 3 b.0, c.0, leb-true s.ptime 255 d.0, leb-true (octets_together (rtpmap_lines s ++ fmtp_lines s)) most_attributes d.1)

-- ---- each line is one
no_lines : all_lines [] ≡ true
unfolding all_lines
no_lines = refl

lines_cons : (t : List ℕ) (ts : List (List ℕ)) → is_line t ≡ true → all_lines ts ≡ true → all_lines (t ∷ ts) ≡ true
unfolding all_lines
lines_cons t ts p q = rw (p, q)

lines_both : (ts us : List (List ℕ)) → all_lines ts ≡ true → all_lines us ≡ true → all_lines (ts ++ us) ≡ true
unfolding all_lines
lines_both [] us p q = q
lines_both (t ∷ ts) us p q =
    let a = (and-eq-true_iff (is_line t) (all_lines ts)).0 p in
    rw (a.0, lines_both ts us a.1 q)

attribute_line_lem : (w v : List ℕ) → all_plain w ≡ true → all_plain v ≡ true → is_line (attribute_text (w ++ v)) ≡ true
unfolding attribute_text
attribute_line_lem w v p q = line_is 97 (w ++ v) refl (plain_append w v ∙ rw (p, q))

origin_line_lem : (a : Address) → is_line (origin_text a) ≡ true
unfolding origin_text all_plain is_plain
origin_line_lem a = line_is 111 (45 ∷ 32 ∷ 48 ∷ 32 ∷ 48 ∷ 32 ∷ host_text a) refl (host_plain a)

connection_line_lem : (a : Address) → is_line (connection_text a) ≡ true
unfolding connection_text
connection_line_lem a = line_is 99 (host_text a) refl (host_plain a)

ipbcp_line_lem : (k : MessageType) → is_line (ipbcp_text k) ≡ true
unfolding ipbcp_text type_word is_line all_plain is_plain
ipbcp_line_lem Request = refl
ipbcp_line_lem Accepted = refl
ipbcp_line_lem Confused = refl
ipbcp_line_lem Rejected = refl

blank_plain : (t : List ℕ) → all_plain t ≡ true → all_plain (32 ∷ t) ≡ true
unfolding all_plain is_plain
blank_plain t p = p

plain_both : (s t : List ℕ) → all_plain s ≡ true → all_plain t ≡ true → all_plain (s ++ t) ≡ true
plain_both s t p q = plain_append s t ∙ rw (p, q)

media_plain : (s : Stream) → right_media s ≡ true → is_line (109 ∷ 61 ∷ media_text s) ≡ true
unfolding media_text
media_plain s h =
    let (a, b, c, d, e) = media_parts s h in
    let (_, _, p) = token_parts s.media a in
    let (_, _, q) = token_parts s.transport d in
    let last : all_plain (32 ∷ number_text s.payload) ≡ true = blank_plain (number_text s.payload) (number_plain s.payload) in
    let behind : all_plain (32 ∷ (s.transport ++ (32 ∷ number_text s.payload))) ≡ true =
    blank_plain (s.transport ++ (32 ∷ number_text s.payload)) (plain_both s.transport (32 ∷ number_text s.payload) q last) in
    let port : all_plain (32 ∷ (number_text s.port ++ (32 ∷ (s.transport ++ (32 ∷ number_text s.payload))))) ≡ true =
    blank_plain (number_text s.port ++ (32 ∷ (s.transport ++ (32 ∷ number_text s.payload))))
    (plain_both (number_text s.port) (32 ∷ (s.transport ++ (32 ∷ number_text s.payload))) (number_plain s.port) behind) in
    line_is 109 (s.media ++ (32 ∷ (number_text s.port ++ (32 ∷ (s.transport ++ (32 ∷ number_text s.payload)))))) refl
    (plain_both s.media (32 ∷ (number_text s.port ++ (32 ∷ (s.transport ++ (32 ∷ number_text s.payload))))) p port)

rtpmap_word_lem : all_plain rtpmap_word ≡ true
unfolding all_plain is_plain
rtpmap_word_lem = refl

fmtp_word_lem : all_plain fmtp_word ≡ true
unfolding all_plain is_plain
fmtp_word_lem = refl

ptime_word_lem : all_plain ptime_word ≡ true
unfolding all_plain is_plain
ptime_word_lem = refl

rtpmap_line : (s : Stream) → all_plain s.rtpmap ≡ true → all_lines (rtpmap_lines s) ≡ true
unfolding rtpmap_lines rtpmap_text
rtpmap_line s p =
    by_bool (eqb (length s.rtpmap) 0) _
    (λ e. rw e no_lines)
    (λ e. rw e
    (lines_cons (attribute_text (rtpmap_word ++ (number_text s.payload ++ (32 ∷ s.rtpmap)))) []
    (attribute_line_lem rtpmap_word (number_text s.payload ++ (32 ∷ s.rtpmap)) rtpmap_word_lem
    (plain_both (number_text s.payload) (32 ∷ s.rtpmap) (number_plain s.payload) (blank_plain s.rtpmap p)))
    no_lines))

fmtp_line : (ts : List (List ℕ)) → all_texts_plain ts ≡ true → all_lines (map fmtp_text ts) ≡ true
unfolding all_texts_plain fmtp_text
fmtp_line [] p = no_lines
fmtp_line (t ∷ ts) p =
    let a = (and-eq-true_iff (all_plain t) (all_texts_plain ts)).0 p in
    lines_cons (attribute_text (fmtp_word ++ t)) (map fmtp_text ts) (attribute_line_lem fmtp_word t fmtp_word_lem a.0) (fmtp_line ts a.1)

ptime_line : (n : ℕ) → all_lines (ptime_lines n) ≡ true
unfolding ptime_lines ptime_text
ptime_line n =
    by_bool (eqb n 0) _
    (λ e. rw e no_lines)
    (λ e. rw e (lines_cons (attribute_text (ptime_word ++ number_text n)) [] (attribute_line_lem ptime_word (number_text n) ptime_word_lem (number_plain n)) no_lines))

stream_lines_lem : (s : Stream) → right_media s ≡ true → right_attributes s ≡ true → all_lines (stream_lines s) ≡ true
unfolding stream_lines fmtp_lines
stream_lines_lem s h k =
    let (a, b, c, d, e) = attribute_parts s k in
    lines_cons (109 ∷ 61 ∷ media_text s) (rtpmap_lines s ++ (map fmtp_text s.fmtp ++ ptime_lines s.ptime)) (media_plain s h)
    (lines_both (rtpmap_lines s) (map fmtp_text s.fmtp ++ ptime_lines s.ptime) (rtpmap_line s a)
    (lines_both (map fmtp_text s.fmtp) (ptime_lines s.ptime) (fmtp_line s.fmtp c) (ptime_line s.ptime)))

content_lines : (c : Content) → right_content c ≡ true → all_lines (media_lines c) ≡ true
unfolding right_content media_lines
content_lines (request_content s) h = let a = (and-eq-true_iff (right_media s) (right_attributes s)).0 h in stream_lines_lem s a.0 a.1
content_lines (accepted_content s) h = let a = (and-eq-true_iff (right_media s) (right_attributes s)).0 h in stream_lines_lem s a.0 a.1
content_lines confused_content h = no_lines
content_lines rejected_content h = no_lines

opening_lines : (own : Address) (k : MessageType) (ts : List (List ℕ)) → all_lines ts ≡ true
    → all_lines (version_text ∷ origin_text own ∷ session_text ∷ connection_text own ∷ time_text ∷ ipbcp_text k ∷ ts) ≡ true
unfolding all_lines is_line all_plain is_plain
opening_lines own k ts h = rw (origin_line_lem own, connection_line_lem own, ipbcp_line_lem k, h)

pub message_lines_lem : (own : Address) (c : Content) → right_content c ≡ true → all_lines (message_lines own c) ≡ true
unfolding message_lines
message_lines_lem own c h = opening_lines own (content_type c) (media_lines c) (content_lines c h)
