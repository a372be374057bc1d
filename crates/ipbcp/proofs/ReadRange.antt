-- What is read of a Request or Accepted can be written: the octets of a line are plain, a token of one is not empty and has no
-- blank, and each number and each length is tested where it is read, so every field of the stream is in range.
-- Assumes nothing.
use Prim.Native.Nat.{ℕ, zero, suc, ◌+◌, ◌≤◌, ◌<◌}
use mathlib.Core.Path.{◌≡◌, refl}
use mathlib.Core.List.{List, [], ◌∷◌, ◌++◌}
use mathlib.Core.Bool.{Bool, true, false, ◌&&◌, cond, and-eq-true_iff}
use mathlib.Core.Option.{Option, none, some, map, Option-elim}
use lib.ListN.{length, drop, length-append}
use lib.Dec.{eqb, leb, ltb}
use native.Mathlib.Omega.{arith}
use borrow.Author.Tests.{leb-true, ltb-true, eqb-true, le-leb, lt-ltb, eq-eqb, ne_eqb}
use Rattle.std.specs.Prelude.{Some, None}
use Rattle.std.specs.Prelude as answer
use Rattle.octets.specs.declared.Refusal.TheVariants.{MessageTooLong, WrongLine}
use Rattle.octets.specs.Split.{has, before, on_first, split_on, part_at}
use Rattle.octets.specs.Decimal.{all_digits, value_from, shortest, number_from, read_number, on_number}
use Rattle.octets.specs.Words.{begins, same}
use Rattle.octets.proofs.CaseLaws.{by_eq, by_bool}
use Rattle.texts.specs.Tokens.{token, none_empty, token_count, after_blank}
use Rattle.sdp.specs.Lines.{lines, all_ended, is_plain, all_plain, is_line, all_lines, in_lines}
use Rattle.sdp.proofs.PlainLaws.{plain_parts}
use Rattle.address.specs.declared.Address.{Address}
use Rattle.address.specs.Kinds.{is_unicast, on_address}
use Rattle.media.specs.Stream.{Stream, bare_stream, rtpmap_word, fmtp_word, ptime_word, rtpmap_lines, fmtp_lines, octets_together, attributes_fit, most_attributes}
use Rattle.media.specs.Attributes.{media_of, fitting, with_rtpmap, with_fmtp, with_ptime, rtpmap_of, fmtp_of, ptime_of, is_attribute, attribute_of}
use Rattle.description.specs.Draft.{Draft, empty_draft, reached, needed, version_line, is_origin, origin_line, session_line, connection_of, with_address, connection_line, is_time, time_line, ipbcp_line, with_stream, media_line, ipbcp_word, attribute_line, skipped_letters, after_field, after_line}
use Rattle.ipbcp.specs.declared.MessageType.{MessageType}
use Rattle.ipbcp.specs.declared.Head.{Head}
use Rattle.ipbcp.specs.Types.{head_in}
use Rattle.ipbcp.specs.Reading.{refused, typed, described, after_lines, concluded, is_described, by_head, read_message, most_read}
use Rattle.ipbcp.specs.Writing.{Content, message_text, is_token, all_texts_plain, right_media, right_attributes, right_content, message_octets, most_written, voice}
use Rattle.ipbcp.proofs.ReadLaws.{read_lined}
use Rattle.ipbcp.proofs.WrittenLaws.{attribute_parts}
use Rattle.ipbcp.proofs.Lengths.{length_message}

-- ---- what holds of all that is there
unfoldable every : {A : Type 0} → (A → Type 0) → Option A → Type 0
every P none = Unit {0}
every P (some x) = P x

every_none : {A : Type 0} (P : A → Type 0) → every P none
unfolding every
every_none P = tt

every_some : {A : Type 0} (P : A → Type 0) (x : A) → P x → every P (some x)
unfolding every
every_some P x p = p

-- of one of two
every_cond : {A : Type 0} (P : A → Type 0) (b : Bool) (x y : Option A) → (b ≡ true → every P x) → (b ≡ false → every P y) → every P (cond b x y)
every_cond P true x y p q = p refl
every_cond P false x y p q = q refl

-- of what a test lets through
every_if : {A : Type 0} (P : A → Type 0) (b : Bool) (x : Option A) → (b ≡ true → every P x) → every P (cond b x none)
every_if P b x p = every_cond P b x none p (λ _. every_none P)

every_number : {A : Type 0} (P : A → Type 0) (z : answer.Option ℕ) (go : ℕ → Option A) → ((n : ℕ) → z ≡ Some n → every P (go n)) → every P (on_number z go none)
unfolding on_number
every_number P (Some n) go p = p n refl
every_number P None go p = every_none P

every_address : {A : Type 0} (P : A → Type 0) (z : answer.Option Address) (go : Address → Option A) → ((a : Address) → every P (go a)) → every P (on_address z go none)
unfolding on_address
every_address P (Some a) go p = p a
every_address P None go p = every_none P

every_elim : {A B : Type 0} (P : A → Type 0) (Q : B → Type 0) (o : Option A) (go : A → Option B) → every P o → ((x : A) → P x → every Q (go x))
    → every Q (Option-elim o none go)
unfolding every Option-elim
every_elim P Q none go p q = p
every_elim P Q (some x) go p q = q x p

-- ---- texts that are plain
plain_nil : all_plain [] ≡ true
unfolding all_plain
plain_nil = refl

plain_cons : (b : ℕ) (bs : List ℕ) → is_plain b ≡ true → all_plain bs ≡ true → all_plain (b ∷ bs) ≡ true
unfolding all_plain
plain_cons b bs p q = rw (p, q)

plain_drop : (n : ℕ) (s : List ℕ) → all_plain s ≡ true → all_plain (drop n s) ≡ true
plain_drop zero s h = h
plain_drop (suc n) [] h = h
plain_drop (suc n) (b ∷ bs) h = plain_drop n bs (plain_parts b bs h).1

plain_after : (s : List ℕ) → all_plain s ≡ true → all_plain (after_blank s) ≡ true
unfolding after_blank
plain_after s h = plain_drop (length (before 32 s) + 1) s h

-- what comes after the letter and `=` of a line
plain_line : (a e : ℕ) (v : List ℕ) → is_line (a ∷ e ∷ v) ≡ true → all_plain v ≡ true
unfolding is_line
plain_line a e v h =
    let p = (and-eq-true_iff (leb 97 a) (leb a 122 && (eqb e 61 && all_plain v))).0 h in
    let q = (and-eq-true_iff (leb a 122) (eqb e 61 && all_plain v)).0 p.1 in
    ((and-eq-true_iff (eqb e 61) (all_plain v)).0 q.1).1

texts_snoc : (ts : List (List ℕ)) (t : List ℕ) → all_texts_plain ts ≡ true → all_plain t ≡ true → all_texts_plain (ts ++ (t ∷ [])) ≡ true
unfolding all_texts_plain
texts_snoc [] t p q = rw q
texts_snoc (u ∷ ts) t p q =
    let a = (and-eq-true_iff (all_plain u) (all_texts_plain ts)).0 p in
    rw (a.0, texts_snoc ts t a.1 q)

-- ---- tokens
-- plain and without c
abbrev Clean : ℕ → List ℕ → Type 0
Clean c t = (has c t ≡ false) × (all_plain t ≡ true)

clean_nil : (c : ℕ) → Clean c []
unfolding has
clean_nil c = (refl, plain_nil)

clean_cons : (c b : ℕ) (t : List ℕ) → (b ≡ c → ⊥) → is_plain b ≡ true → Clean c t → Clean c (b ∷ t)
unfolding has
clean_cons c b t n p h = (rw (ne_eqb b c n) h.0, plain_cons b t p h.1)

-- each part, where an octet is put before the first
clean_first : (c b : ℕ) (ps : List (List ℕ)) → (b ≡ c → ⊥) → is_plain b ≡ true → ((k : ℕ) → Clean c (part_at k ps)) → (k : ℕ) → Clean c (part_at k (on_first b ps))
unfolding part_at on_first
clean_first c b [] n p h zero = clean_cons c b [] n p (clean_nil c)
clean_first c b [] n p h (suc k) = clean_nil c
clean_first c b (q ∷ ps) n p h zero = clean_cons c b q n p (h 0)
clean_first c b (q ∷ ps) n p h (suc k) = h (suc k)

clean_here : (c : ℕ) (ps : List (List ℕ)) → ((k : ℕ) → Clean c (part_at k ps)) → (k : ℕ) → Clean c (part_at k ([] ∷ ps))
unfolding part_at
clean_here c ps h zero = clean_nil c
clean_here c ps h (suc k) = h k

clean_split : (c : ℕ) (s : List ℕ) → all_plain s ≡ true → (k : ℕ) → Clean c (part_at k (split_on c s))
unfolding split_on part_at
clean_split c [] h zero = clean_nil c
clean_split c [] h (suc k) = clean_nil c
clean_split c (b ∷ bs) h k =
    let a = plain_parts b bs h in
    let r : (j : ℕ) → Clean c (part_at j (split_on c bs)) = λ j. clean_split c bs a.1 j in
    by_eq b c _
    (λ e. rw (eq-eqb b c e) (clean_here c (split_on c bs) r k))
    (λ e. rw (ne_eqb b c e) (clean_first c b (split_on c bs) e a.0 r k))

some_part : (ps : List (List ℕ)) (k : ℕ) → none_empty ps ≡ true → k < length ps → 0 < length (part_at k ps)
unfolding none_empty part_at
some_part [] k h l = absurd (omega arith)
some_part (p ∷ ps) zero h l = ltb-true 0 (length p) ((and-eq-true_iff (ltb 0 (length p)) (none_empty ps)).0 h).0
some_part (p ∷ ps) (suc k) h l = some_part ps k ((and-eq-true_iff (ltb 0 (length p)) (none_empty ps)).0 h).1 (omega arith)

count_parts : (v : List ℕ) (n : ℕ) → 0 < n → token_count v ≡ n → (none_empty (split_on 32 v) ≡ true) × (length (split_on 32 v) ≡ n)
unfolding token_count
count_parts v n l e =
    by_bool (none_empty (split_on 32 v)) _
    (λ h. (h, rw h at e))
    (λ h. let z : 0 ≡ n = rw h at e in absurd (omega arith))

token_right : (v : List ℕ) (n k : ℕ) → all_plain v ≡ true → token_count v ≡ n → k < n → is_token (token k v) ≡ true
unfolding is_token
token_right v n k h e l =
    let (full, all) = count_parts v n (omega arith) e in
    let (bare, plain) = clean_split 32 v h k in
    rw (lt-ltb 0 (length (token k v)) (some_part (split_on 32 v) k full (omega arith)), bare, plain)

-- ---- numbers
told_value : (a b : Bool) (x n : ℕ) → cond a (cond b (Some x) None) None ≡ Some n → (b ≡ true) × (x ≡ n)
told_value true true x n q = (refl, cc)
told_value true false x n q = let z : ◌≡◌ {A = ℕ} 0 1 = cc in absurd (omega arith)
told_value false b x n q = let z : ◌≡◌ {A = ℕ} 0 1 = cc in absurd (omega arith)

number_most : (s : List ℕ) (n : ℕ) → read_number s ≡ Some n → n ≤ 65535
unfolding read_number number_from
number_most s n q =
    let (t, e) = told_value (shortest s) (all_digits s && leb (value_from 0 s) 65535) (value_from 0 s) n q in
    omega (arith, e, leb-true (value_from 0 s) 65535 ((and-eq-true_iff (all_digits s) (leb (value_from 0 s) 65535)).0 t).1)

-- ---- a stream in range
abbrev Right : Stream → Type 0
Right s = (right_media s ≡ true) × (right_attributes s ≡ true)

-- the media line
module _ (v : List ℕ) (h : all_plain v ≡ true) where
  bare_right : (port payload : ℕ) → token_count v ≡ 4 → 1 ≤ port → port ≤ 65535 → payload ≤ 127 → Right (bare_stream (token 0 v) port (token 2 v) payload)
  unfolding right_media right_attributes all_texts_plain attributes_fit rtpmap_lines fmtp_lines octets_together
  bare_right port payload c low high most = (
    rw (token_right v 4 0 h c (omega arith), token_right v 4 2 h c (omega arith), le-leb 1 port low, le-leb port 65535 high, le-leb payload 127 most),
    rw plain_nil,
  )

  media_right : every Right (media_of v)
  unfolding media_of
  media_right =
      every_if Right (eqb (token_count v) 4) _
      (λ c. every_number Right (read_number (token 1 v)) _
      (λ port p. every_number Right (read_number (token 3 v)) _
      (λ payload _. every_if Right (leb 1 port && leb payload 127) _
      (λ t. let a = (and-eq-true_iff (leb 1 port) (leb payload 127)).0 t in
      every_some Right (bare_stream (token 0 v) port (token 2 v) payload)
      (bare_right port payload (eqb-true (token_count v) 4 c) (leb-true 1 port a.0) (number_most (token 1 v) port p) (leb-true payload 127 a.1))))))

-- each attribute
fitting_right : (t : Stream) → (attributes_fit t ≡ true → Right t) → every Right (fitting t)
unfolding fitting
fitting_right t f = every_if Right (attributes_fit t) (some t) (λ e. every_some Right t (f e))

module _ (s : Stream) (r : Right s) where
  rtpmap_fits : (t : List ℕ) → all_plain t ≡ true → attributes_fit (with_rtpmap t s) ≡ true → Right (with_rtpmap t s)
  unfolding right_media right_attributes with_rtpmap
  rtpmap_fits t h f =
      let (_, few, texts, most, _) = attribute_parts s r.1 in
      (r.0, rw (h, le-leb (length s.fmtp) 3 few, texts, le-leb s.ptime 255 most) f)

  fmtp_fits : (t : List ℕ) → all_plain t ≡ true → length s.fmtp < 3 → attributes_fit (with_fmtp t s) ≡ true → Right (with_fmtp t s)
  unfolding right_media right_attributes with_fmtp
  fmtp_fits t h few f =
      let (plain, _, texts, most, _) = attribute_parts s r.1 in
      let l = length-append s.fmtp (t ∷ []) in
      (r.0, rw (plain, le-leb (length (s.fmtp ++ (t ∷ []))) 3 (omega arith), texts_snoc s.fmtp t texts h, le-leb s.ptime 255 most) f)

  ptime_fits : (n : ℕ) → n ≤ 255 → Right (with_ptime n s)
  unfolding right_media right_attributes with_ptime attributes_fit rtpmap_lines fmtp_lines
  ptime_fits n h =
      let (plain, few, texts, _, fit) = attribute_parts s r.1 in
      (r.0, rw (plain, le-leb (length s.fmtp) 3 few, texts, le-leb n 255 h) (le-leb (octets_together (rtpmap_lines s ++ fmtp_lines s)) most_attributes fit))

  module _ (v : List ℕ) (h : all_plain v ≡ true) where
    rtpmap_right : every Right (rtpmap_of s v)
    unfolding rtpmap_of
    rtpmap_right =
        every_if Right (eqb (length s.rtpmap) 0) _
        (λ _. every_number Right (read_number (token 0 v)) _
        (λ n _. every_if Right (eqb n s.payload && ltb 0 (length (after_blank v))) _
        (λ _. fitting_right (with_rtpmap (after_blank v) s) (rtpmap_fits (after_blank v) (plain_after v h)))))

    fmtp_right : every Right (fmtp_of s v)
    unfolding fmtp_of
    fmtp_right = every_if Right (ltb (length s.fmtp) 3) _ (λ t. fitting_right (with_fmtp v s) (fmtp_fits v h (ltb-true (length s.fmtp) 3 t)))

    ptime_right : every Right (ptime_of s v)
    unfolding ptime_of
    ptime_right =
        every_if Right (eqb s.ptime 0) _
        (λ _. every_number Right (read_number v) _
        (λ n _. every_if Right (leb 1 n && leb n 255) _
        (λ t. every_some Right (with_ptime n s) (ptime_fits n (leb-true n 255 ((and-eq-true_iff (leb 1 n) (leb n 255)).0 t).1)))))

  attribute_right : (a : List ℕ) → all_plain a ≡ true → every Right (attribute_of s a)
  unfolding attribute_of
  attribute_right a h =
      every_cond Right (begins rtpmap_word a) _ _
      (λ _. rtpmap_right (drop (length rtpmap_word) a) (plain_drop (length rtpmap_word) a h))
      (λ _. every_cond Right (begins fmtp_word a) _ _
      (λ _. fmtp_right (drop (length fmtp_word) a) (plain_drop (length fmtp_word) a h))
      (λ _. every_cond Right (begins ptime_word a) _ _
      (λ _. ptime_right (drop (length ptime_word) a) (plain_drop (length ptime_word) a h))
      (λ _. every_some Right s r)))

-- ---- a draft whose stream is in range once the media line is read
abbrev Kept : Draft → Type 0
Kept d = d.had ≡ 7 → Right d.stream

start_kept : Kept empty_draft
unfolding empty_draft
start_kept e = absurd (omega arith)

-- a needed line before the media line
needed_kept : (n : ℕ) (right : Bool) (d : Draft) → (n ≡ 6 → ⊥) → every Kept (needed n right d)
unfolding needed reached
needed_kept n right d less =
    every_if Kept (eqb d.had n) _
    (λ _. every_if Kept right _
    (λ _. every_some Kept (record { had = n + 1; address = d.address; stream = d.stream }) (λ e. absurd (less (omega arith)))))

connection_kept : (d : Draft) (v : List ℕ) → every Kept (connection_line d v)
unfolding connection_line with_address
connection_kept d v =
    every_if Kept (eqb d.had 3) _
    (λ _. every_address Kept (connection_of v) _
    (λ a. every_some Kept (record { had = 4; address = a; stream = d.stream }) (λ e. absurd (omega arith))))

-- the media line or an attribute, which makes the stream
stream_kept : (d : Draft) (o : Option Stream) → every Right o → every Kept (map (with_stream d) o)
unfolding with_stream every
stream_kept d none p = p
stream_kept d (some s) p = λ _. p

media_kept : (d : Draft) (v : List ℕ) → all_plain v ≡ true → every Kept (media_line d v)
unfolding media_line
media_kept d v h = every_if Kept (eqb d.had 6) _ (λ _. stream_kept d (media_of v) (media_right v h))

ipbcp_kept : (d : Draft) → every Kept (ipbcp_line d)
unfolding ipbcp_line
ipbcp_kept d = needed_kept 5 true d (λ e. omega arith)

module _ (d : Draft) (k : Kept d) where
  attribute_kept : (a : List ℕ) → all_plain a ≡ true → every Kept (attribute_line d a)
  unfolding attribute_line
  attribute_kept a h =
      every_cond Kept (begins ipbcp_word a) _ _
      (λ _. ipbcp_kept d)
      (λ _. every_cond Kept (is_attribute a) _ _
      (λ _. every_if Kept (eqb d.had 7) _
      (λ t. stream_kept d (attribute_of d.stream a) (attribute_right d.stream (k (eqb-true d.had 7 t)) a h)))
      (λ _. every_some Kept d k))

  field_kept : (letter : ℕ) (v : List ℕ) → all_plain v ≡ true → every Kept (after_field d letter v)
  unfolding after_field version_line origin_line session_line time_line
  field_kept letter v h =
      every_cond Kept (eqb letter 118) _ _ (λ _. needed_kept 0 (same (48 ∷ []) v) d (λ e. omega arith))
      (λ _. every_cond Kept (eqb letter 111) _ _ (λ _. needed_kept 1 (is_origin v) d (λ e. omega arith))
      (λ _. every_cond Kept (eqb letter 115) _ _ (λ _. needed_kept 2 true d (λ e. omega arith))
      (λ _. every_cond Kept (eqb letter 99) _ _ (λ _. connection_kept d v)
      (λ _. every_cond Kept (eqb letter 116) _ _ (λ _. needed_kept 4 (is_time v) d (λ e. omega arith))
      (λ _. every_cond Kept (eqb letter 109) _ _ (λ _. media_kept d v h)
      (λ _. every_cond Kept (eqb letter 97) _ _ (λ _. attribute_kept v h)
      (λ _. every_if Kept (has letter skipped_letters) _ (λ _. every_some Kept d k))))))))

  line_kept : (t : List ℕ) → is_line t ≡ true → every Kept (after_line d t)
  unfolding after_line
  line_kept [] h = every_none Kept
  line_kept (letter ∷ []) h = every_none Kept
  line_kept (letter ∷ e ∷ v) h = field_kept letter v (plain_line letter e v h)

lines_kept : (d : Draft) → Kept d → (ts : List (List ℕ)) → all_lines ts ≡ true → every Kept (after_lines d ts)
unfolding after_lines all_lines
lines_kept d k [] h = every_some Kept d k
lines_kept d k (t ∷ ts) h =
    let a = (and-eq-true_iff (is_line t) (all_lines ts)).0 h in
    every_elim Kept Kept (after_line d t) (λ e. after_lines e ts) (line_kept d k t a.0) (λ e p. lines_kept e p ts a.1)

-- ---- the whole message
module _ (k : MessageType) (a : Address) (s : Stream) where
  concluded_right : (j : MessageType) (o : Option Draft) → every Kept o → concluded j o ≡ described k a s → Right s
  unfolding concluded every
  concluded_right j none p e = let z : ◌≡◌ {A = ℕ} 0 1 = cc in absurd (omega arith)
  concluded_right j (some d) p e =
      by_bool (eqb d.had 7) _
      (λ h. let q : described j d.address d.stream ≡ described k a s = rw h at e in
      let z : d.stream ≡ s = cc in
      rw (← z) (p (eqb-true d.had 7 h)))
      (λ h. let q : refused WrongLine ≡ described k a s = rw h at e in absurd (let z : ◌≡◌ {A = ℕ} 0 1 = cc in omega arith))

  lined_right : (m : List ℕ) (j : MessageType) → in_lines m ≡ true → concluded j (after_lines empty_draft (lines m)) ≡ described k a s → Right s
  unfolding in_lines
  lined_right m j h e =
      let all = ((and-eq-true_iff (all_ended m) (all_lines (lines m))).0 h).1 in
      concluded_right j (after_lines empty_draft (lines m)) (lines_kept empty_draft start_kept (lines m) all) e

  head_right : (m : List ℕ) → length m ≤ most_read → (x : answer.Option Head) → x ≡ head_in m → by_head m x ≡ described k a s → Right s
  unfolding by_head
  head_right m l None q e = let z : ◌≡◌ {A = ℕ} 0 1 = cc in absurd (omega arith)
  head_right m l (Some h) q e = go (eqb h.version 1) (is_described h.kind) e
    where
      go : (t u : Bool) → cond (t && u) (concluded h.kind (after_lines empty_draft (lines m))) (typed h.version h.kind) ≡ described k a s → Right s
      go true true p = lined_right m h.kind (read_lined m (Some h) q h refl) p
      go true false p = let z : ◌≡◌ {A = ℕ} 0 1 = cc in absurd (omega arith)
      go false u p = let z : ◌≡◌ {A = ℕ} 0 1 = cc in absurd (omega arith)

-- What is read of a Request or Accepted can be written: every field of it is in range.
pub read_right : (m : List ℕ) (k : MessageType) (a : Address) (s : Stream) → read_message m ≡ described k a s
    → (right_media s ≡ true) × (right_attributes s ≡ true)
unfolding read_message
read_right m k a s e =
    by_bool (leb (length m) most_read) _
    (λ h. head_right k a s m (leb-true (length m) most_read h) (head_in m) refl (rw h at e))
    (λ h. let q : refused MessageTooLong ≡ described k a s = rw h at e in absurd (let z : ◌≡◌ {A = ℕ} 0 1 = cc in omega arith))

-- ---- writing it: nothing in range is refused, where media and transport are as short as those of audio and RTP/AVP
pub content_octets : (own : Address) (c : Content) → is_unicast own ≡ true → right_content c ≡ true → voice c → message_octets own c ≡ some (message_text own c)
unfolding message_octets
content_octets own c u h v = rw (u, h, le-leb (length (message_text own c)) most_written (length_message own c h v))
