-- What is written is read back: a message is cut into the lines that it was put together from, and each of them is read as
-- what it was written for.
-- Assumes nothing.
use Prim.Native.Nat.{ℕ, ◌≤◌}
use mathlib.Core.Path.{◌≡◌, refl, sym, ap, ◌∙◌}
use mathlib.Core.List.{List, [], ◌∷◌, ◌++◌, map, append_assoc, append-nil, map-append}
use mathlib.Core.Bool.{true, false, ◌&&◌, and-eq-true_iff}
use mathlib.Core.Option.{Option, none, some, Option-elim}
use lib.ListN.{length, drop, length-append}
use lib.Dec.{leb}
use native.Mathlib.Omega.{arith}
use borrow.Author.Tests.{le-leb, lt-ltb, eq-eqb, ne_eqb, leb-true}
use Rattle.octets.specs.Append.{number_text}
use Rattle.octets.specs.Decimal.{is_digit, all_digits, value_from, shortest, number_from, read_number, on_number}
use Rattle.octets.specs.Split.{on_first, split_on, part_at}
use Rattle.octets.specs.Words.{begins, same, digit_run}
use Rattle.octets.proofs.CaseLaws.{by_bool, by_eq}
use Rattle.octets.proofs.SplitLaws.{split_whole}
use Rattle.texts.specs.Tokens.{none_empty, token_count}
use Rattle.sdp.specs.Lines.{lines}
use Rattle.sdp.specs.Written.{lines_text}
use Rattle.sdp.proofs.WrittenLines.{lines_written, in_lines_written}
use Rattle.address.specs.declared.Address.{Address}
use Rattle.address.specs.declared.Address.TheVariants.{V4, V6}
use Rattle.std.specs.Prelude.{Some}
use Rattle.address.specs.Kinds.{is_unicast, on_address}
use Rattle.address.specs.Canonical.{address_text}
use Rattle.address.specs.Back.{fits, read_like}
use Rattle.address.proofs.RoundTrip.{address_back}
use Rattle.address.proofs.Lengths.{address_some}
use Rattle.address.proofs.Visible.{address_has}
use Rattle.media.specs.Stream.{Stream, media_text, rtpmap_word, fmtp_word, ptime_word, attribute_text, rtpmap_text, fmtp_text, ptime_text, rtpmap_lines, fmtp_lines, octets_together, attributes_fit, most_attributes}
use Rattle.media.specs.Attributes.{fitting, with_rtpmap, with_fmtp, with_ptime, is_attribute, attribute_of}
use Rattle.media.proofs.BackLaws.{media_back, rtpmap_back, fmtp_back, ptime_back}
use Rattle.media.proofs.LimitLaws.{together_append}
use Rattle.description.specs.Draft.{Draft, empty_draft, reached, needed, version_line, in_word, is_origin, origin_line, session_line, address_of, connection_of, with_address, connection_line, is_time, time_line, ipbcp_line, with_stream, media_line, ipbcp_word, attribute_line, after_field, after_line}
use Rattle.ipbcp.specs.declared.MessageType.{MessageType}
use Rattle.ipbcp.specs.declared.MessageType.TheVariants.{Request, Accepted, Confused, Rejected}
use Rattle.ipbcp.specs.Types.{type_word, type_named, typed_from, head_from, without_blank, first_head, head_in, ipbcp_start}
use Rattle.ipbcp.specs.Reading.{described, after_lines, concluded, is_described, by_head, read_message, most_read}
use Rattle.ipbcp.specs.Writing.{Content, request_content, accepted_content, confused_content, rejected_content, family_word, host_text, version_text, origin_text, session_text, connection_text, time_text, ipbcp_text, ptime_lines, stream_lines, content_type, media_lines, message_lines, message_text, right_media, right_attributes, right_content, message_octets, reading_of, most_written}
use Rattle.ipbcp.proofs.WrittenLaws.{media_parts, token_parts, attribute_parts, message_lines_lem}

-- ---- version and type
head_text : (k : MessageType) → head_from (without_blank (drop (length ipbcp_start) (ipbcp_text k))) ≡ Some (record { version = 1; kind = k })
unfolding ipbcp_text type_word head_from typed_from without_blank token_count none_empty split_on on_first part_at read_number number_from shortest all_digits is_digit value_from on_number type_named same begins Option-elim
head_text Request = refl
head_text Accepted = refl
head_text Confused = refl
head_text Rejected = refl

opening_head : (own : Address) (k : MessageType) (ts : List (List ℕ))
    → first_head (version_text ∷ origin_text own ∷ session_text ∷ connection_text own ∷ time_text ∷ ipbcp_text k ∷ ts) ≡ head_from (without_blank (drop (length ipbcp_start) (ipbcp_text k)))
unfolding first_head begins origin_text connection_text ipbcp_text
opening_head own k ts = refl

message_head : (own : Address) (c : Content) → first_head (message_lines own c) ≡ Some (record { version = 1; kind = content_type c })
unfolding message_lines
message_head own c = opening_head own (content_type c) (media_lines c) ∙ head_text (content_type c)

-- ---- the lines of every message
address_split : (a : Address) → split_on 32 (address_text a) ≡ address_text a ∷ []
address_split a = split_whole 32 (address_text a) (address_has a 32 (omega arith))

host_split : (a : Address) → split_on 32 (host_text a) ≡ in_word ∷ family_word a ∷ address_text a ∷ []
unfolding host_text family_word split_on on_first
host_split (V4 n) = rw (address_split (V4 n))
host_split (V6 h l) = rw (address_split (V6 h l))

origin_split : (a : Address) → split_on 32 (45 ∷ 32 ∷ 48 ∷ 32 ∷ 48 ∷ 32 ∷ host_text a) ≡ (45 ∷ []) ∷ (48 ∷ []) ∷ (48 ∷ []) ∷ in_word ∷ family_word a ∷ address_text a ∷ []
unfolding split_on on_first
origin_split a = rw (host_split a)

origin_is : (a : Address) → is_origin (45 ∷ 32 ∷ 48 ∷ 32 ∷ 48 ∷ 32 ∷ host_text a) ≡ true
unfolding is_origin token_count none_empty part_at family_word same begins
origin_is (V4 n) = rw (origin_split (V4 n), lt-ltb 0 (length (address_text (V4 n))) (address_some (V4 n)))
origin_is (V6 h l) = rw (origin_split (V6 h l), lt-ltb 0 (length (address_text (V6 h l))) (address_some (V6 h l)))

connection_is : (a : Address) → fits a → is_unicast a ≡ true → connection_of (host_text a) ≡ Some a
unfolding connection_of token_count none_empty part_at family_word same begins address_of read_like
connection_is (V4 n) f u =
    let b = address_back (V4 n) f u in
    rw (host_split (V4 n), lt-ltb 0 (length (address_text (V4 n))) (address_some (V4 n))) b
connection_is (V6 h l) f u =
    let b = address_back (V6 h l) f u in
    rw (host_split (V6 h l), lt-ltb 0 (length (address_text (V6 h l))) (address_some (V6 h l))) b

-- the draft after them: all but the media line
unfoldable six_lines : Address → Draft
six_lines own = record { had = 6; address = own; stream = empty_draft.stream }

opening_read : (own : Address) → fits own → is_unicast own ≡ true → (k : MessageType) (ts : List (List ℕ))
    → after_lines empty_draft (version_text ∷ origin_text own ∷ session_text ∷ connection_text own ∷ time_text ∷ ipbcp_text k ∷ ts) ≡ after_lines (six_lines own) ts
unfolding after_lines after_line after_field empty_draft version_line needed reached same begins origin_text origin_line session_line connection_text connection_line on_address with_address time_line is_time token_count none_empty split_on on_first part_at digit_run all_digits is_digit ipbcp_text attribute_line ipbcp_line six_lines Option-elim
opening_read own f u k ts = rw (origin_is own, connection_is own f u)

-- ---- the media line and its attributes
lines_append : (d : Draft) (ts us : List (List ℕ)) (e : Draft) → after_lines d ts ≡ some e → after_lines d (ts ++ us) ≡ after_lines e us
unfolding after_lines Option-elim
lines_append d [] us e p = go p
  where
    go : some d ≡ some e → after_lines d us ≡ after_lines e us
    go q = let z : d ≡ e = cc in rw z
lines_append d (t ∷ ts) us e p = go (after_line d t) p (λ c q. lines_append c ts us e q)
  where
    go : (o : Option Draft) → Option-elim o none (λ c. after_lines c ts) ≡ some e → ((c : Draft) → after_lines c ts ≡ some e → after_lines c (ts ++ us) ≡ after_lines e us)
        → Option-elim o none (λ c. after_lines c (ts ++ us)) ≡ after_lines e us
    go none q more = let z : ◌≡◌ {A = ℕ} 0 1 = cc in absurd (omega arith)
    go (some c) q more = more c q

-- the draft with a stream of s's media line and these attributes
unfoldable part : Stream → List ℕ → List (List ℕ) → ℕ → Stream
part s rtpmap fmtp ptime = record { media = s.media; port = s.port; transport = s.transport; payload = s.payload; rtpmap = rtpmap; fmtp = fmtp; ptime = ptime }

unfoldable seven_lines : Address → Stream → Draft
seven_lines own s = record { had = 7; address = own; stream = s }

module _ (own : Address) (s : Stream) (h : right_media s ≡ true) (k : right_attributes s ≡ true) where
  media_read : after_line (six_lines own) (109 ∷ 61 ∷ media_text s) ≡ some (seven_lines own (part s [] [] 0))
  unfolding after_line after_field six_lines media_line with_stream seven_lines part
  media_read =
      let (a, b, c, d, e) = media_parts s h in
      let (pm, qm, _) = token_parts s.media a in
      let (pt, qt, _) = token_parts s.transport d in
      rw (media_back s qm qt pm pt b c e)

  payload_low : s.payload ≤ 127
  payload_low = let (a, b, c, d, e) = media_parts s h in e

  -- what comes of the first of its fmtp lines fits, since all do
  part_fits : (fs gs : List (List ℕ)) → fs ++ gs ≡ s.fmtp → attributes_fit (part s s.rtpmap fs 0) ≡ true
  unfolding attributes_fit rtpmap_lines fmtp_lines part
  part_fits fs gs e =
      let (_, _, _, _, all) = attribute_parts s k in
      let m = rtpmap_lines s in
      let x : octets_together (m ++ map fmtp_text (fs ++ gs)) ≤ most_attributes = rw e all in
      let y = together_append m (map fmtp_text (fs ++ gs)) in
      let z = together_append (map fmtp_text fs) (map fmtp_text gs) in
      let w : octets_together (map fmtp_text (fs ++ gs)) ≡ octets_together (map fmtp_text fs ++ map fmtp_text gs) = rw (map-append fmtp_text fs gs) in
      let v = together_append m (map fmtp_text fs) in
      le-leb (octets_together (m ++ map fmtp_text fs)) most_attributes (omega arith)

  attribute_read : (t : Stream) (a : List ℕ) → begins ipbcp_word a ≡ false → is_attribute a ≡ true → (u : Stream) → attribute_of t a ≡ some u
      → after_line (seven_lines own t) (attribute_text a) ≡ some (seven_lines own u)
  unfolding after_line after_field attribute_text attribute_line seven_lines with_stream
  attribute_read t a p q u e = rw (p, q, e)

  empty : (x : List ℕ) → length x ≡ 0 → x ≡ []
  empty [] e = refl
  empty (b ∷ bs) e = absurd (omega arith)

  no_rtpmap : length s.rtpmap ≡ 0 → after_lines (seven_lines own (part s [] [] 0)) (rtpmap_lines s) ≡ some (seven_lines own (part s s.rtpmap [] 0))
  unfolding rtpmap_lines after_lines
  no_rtpmap e = rw (empty s.rtpmap e)

  rtpmap_taken : (length s.rtpmap ≡ 0 → ⊥) → attribute_of (part s [] [] 0) (rtpmap_word ++ (number_text s.payload ++ (32 ∷ s.rtpmap))) ≡ some (part s s.rtpmap [] 0)
  unfolding fitting with_rtpmap part
  rtpmap_taken e = rtpmap_back (part s [] [] 0) s.rtpmap refl (omega arith) payload_low ∙ rw (part_fits [] s.fmtp refl)

  one_rtpmap : (length s.rtpmap ≡ 0 → ⊥) → after_lines (seven_lines own (part s [] [] 0)) (rtpmap_lines s) ≡ some (seven_lines own (part s s.rtpmap [] 0))
  unfolding rtpmap_lines rtpmap_text after_lines Option-elim begins is_attribute
  one_rtpmap e =
      let t = part s [] [] 0 in
      let a = rtpmap_word ++ (number_text s.payload ++ (32 ∷ s.rtpmap)) in
      let u = part s s.rtpmap [] 0 in
      let f : attribute_of t a ≡ some u = rtpmap_taken e in
      rw (ne_eqb (length s.rtpmap) 0 e, attribute_read t a refl refl u f)

  rtpmap_read : after_lines (seven_lines own (part s [] [] 0)) (rtpmap_lines s) ≡ some (seven_lines own (part s s.rtpmap [] 0))
  rtpmap_read = by_eq (length s.rtpmap) 0 _ no_rtpmap one_rtpmap

  fmtp_taken : (g : List ℕ) (fs gs : List (List ℕ)) → fs ++ (g ∷ gs) ≡ s.fmtp → attribute_of (part s s.rtpmap fs 0) (fmtp_word ++ g) ≡ some (part s s.rtpmap (fs ++ (g ∷ [])) 0)
  unfolding fitting with_fmtp part
  fmtp_taken g fs gs e =
      let (_, few, _, _, _) = attribute_parts s k in
      let n : length (fs ++ (g ∷ gs)) ≤ 3 = rw e few in
      let l = length-append fs (g ∷ gs) in
      let q : (fs ++ (g ∷ [])) ++ gs ≡ s.fmtp = append_assoc fs (g ∷ []) gs ∙ e in
      fmtp_back (part s s.rtpmap fs 0) g (omega arith) ∙ rw (part_fits (fs ++ (g ∷ [])) gs q)

  fmtp_more : (fs : List (List ℕ)) (g : List ℕ) (gs : List (List ℕ)) → fs ++ (g ∷ gs) ≡ s.fmtp
      → after_lines (seven_lines own (part s s.rtpmap (fs ++ (g ∷ [])) 0)) (map fmtp_text gs) ≡ some (seven_lines own (part s s.rtpmap s.fmtp 0))
      → after_lines (seven_lines own (part s s.rtpmap fs 0)) (map fmtp_text (g ∷ gs)) ≡ some (seven_lines own (part s s.rtpmap s.fmtp 0))
  unfolding after_lines Option-elim fmtp_text begins is_attribute
  fmtp_more fs g gs e p =
      rw (attribute_read (part s s.rtpmap fs 0) (fmtp_word ++ g) refl refl (part s s.rtpmap (fs ++ (g ∷ [])) 0) (fmtp_taken g fs gs e)) p

  fmtp_read : (fs gs : List (List ℕ)) → fs ++ gs ≡ s.fmtp
      → after_lines (seven_lines own (part s s.rtpmap fs 0)) (map fmtp_text gs) ≡ some (seven_lines own (part s s.rtpmap s.fmtp 0))
  unfolding after_lines
  fmtp_read fs [] e = let z : fs ≡ s.fmtp = sym (append-nil fs) ∙ e in rw z
  fmtp_read fs (g ∷ gs) e = fmtp_more fs g gs e (fmtp_read (fs ++ (g ∷ [])) gs (append_assoc fs (g ∷ []) gs ∙ e))

  no_ptime : s.ptime ≡ 0 → after_lines (seven_lines own (part s s.rtpmap s.fmtp 0)) (ptime_lines s.ptime) ≡ some (seven_lines own s)
  unfolding ptime_lines after_lines part
  no_ptime e = let z : part s s.rtpmap s.fmtp 0 ≡ s = ap (λ (n : ℕ). part s s.rtpmap s.fmtp n) (sym e) in rw (eq-eqb s.ptime 0 e) (ap (λ (x : Stream). some (seven_lines own x)) z)

  one_ptime : (s.ptime ≡ 0 → ⊥) → after_lines (seven_lines own (part s s.rtpmap s.fmtp 0)) (ptime_lines s.ptime) ≡ some (seven_lines own s)
  unfolding ptime_lines ptime_text after_lines Option-elim begins is_attribute part with_ptime
  one_ptime e =
      let (_, _, _, most, _) = attribute_parts s k in
      let t = part s s.rtpmap s.fmtp 0 in
      let f : attribute_of t (ptime_word ++ number_text s.ptime) ≡ some s = ptime_back t s.ptime refl (omega arith) most in
      rw (ne_eqb s.ptime 0 e, attribute_read t (ptime_word ++ number_text s.ptime) refl refl s f)

  ptime_read : after_lines (seven_lines own (part s s.rtpmap s.fmtp 0)) (ptime_lines s.ptime) ≡ some (seven_lines own s)
  ptime_read = by_eq s.ptime 0 _ no_ptime one_ptime

  stream_read : after_lines (six_lines own) (stream_lines s) ≡ some (seven_lines own s)
  unfolding stream_lines after_lines Option-elim fmtp_lines
  stream_read =
      rw media_read
      (lines_append (seven_lines own (part s [] [] 0)) (rtpmap_lines s) (map fmtp_text s.fmtp ++ ptime_lines s.ptime) (seven_lines own (part s s.rtpmap [] 0)) rtpmap_read
      ∙ lines_append (seven_lines own (part s s.rtpmap [] 0)) (map fmtp_text s.fmtp) (ptime_lines s.ptime) (seven_lines own (part s s.rtpmap s.fmtp 0)) (fmtp_read [] s.fmtp refl)
      ∙ ptime_read)

-- ---- the whole message
module _ (own : Address) (f : fits own) (u : is_unicast own ≡ true) where
  described_read : (k : MessageType) (s : Stream) → right_media s ≡ true → right_attributes s ≡ true
      → concluded k (after_lines empty_draft (version_text ∷ origin_text own ∷ session_text ∷ connection_text own ∷ time_text ∷ ipbcp_text k ∷ stream_lines s)) ≡ described k own s
  unfolding concluded seven_lines
  described_read k s h j = rw (opening_read own f u k (stream_lines s), stream_read own s h j)

  by_kind : (c : Content) → right_content c ≡ true → (m : List ℕ) → lines m ≡ message_lines own c → by_head m (Some (record { version = 1; kind = content_type c })) ≡ reading_of own c
  unfolding by_head is_described content_type right_content reading_of message_lines media_lines
  by_kind (request_content s) h m e = let a = (and-eq-true_iff (right_media s) (right_attributes s)).0 h in rw e (described_read Request s a.0 a.1)
  by_kind (accepted_content s) h m e = let a = (and-eq-true_iff (right_media s) (right_attributes s)).0 h in rw e (described_read Accepted s a.0 a.1)
  by_kind confused_content h m e = refl
  by_kind rejected_content h m e = refl

  text_read : (c : Content) → right_content c ≡ true → length (message_text own c) ≤ most_written → read_message (message_text own c) ≡ reading_of own c
  unfolding read_message head_in message_text
  text_read c h l =
      let ts = message_lines own c in
      let all = message_lines_lem own c h in
      rw (le-leb (length (lines_text ts)) most_read (omega arith), in_lines_written ts all, lines_written ts all, message_head own c)
      (by_kind c h (lines_text ts) (lines_written ts all))

-- the octets to write are the text, in range and not too long
pub octets_are : (own : Address) (c : Content) (t : List ℕ) → message_octets own c ≡ some t
    → (is_unicast own ≡ true) × (right_content c ≡ true) × (length t ≤ most_written) × (t ≡ message_text own c)
unfolding message_octets
octets_are own c t e =
    let m = message_text own c in
    by_bool (is_unicast own && (right_content c && leb (length m) most_written)) _
    (λ h.
    let a = (and-eq-true_iff (is_unicast own) (right_content c && leb (length m) most_written)).0 h in
    let b = (and-eq-true_iff (right_content c) (leb (length m) most_written)).0 a.1 in
    let q : some m ≡ some t = rw h at e in
    let z : m ≡ t = cc in
    (a.0, b.0, rw (← z) (leb-true (length m) most_written b.1), sym z))
    (λ h. let q : none ≡ some t = rw h at e in absurd (let z : ◌≡◌ {A = ℕ} 0 1 = cc in omega arith))

-- Every message that can be written is read as what was written.
pub read_written : (own : Address) (c : Content) (t : List ℕ) → fits own → message_octets own c ≡ some t → read_message t ≡ reading_of own c
read_written own c t f e =
    let (u, h, l, is) = octets_are own c t e in
    rw is (text_read own f u c h (omega (arith, ap (λ (x : List ℕ). length x) is)))
