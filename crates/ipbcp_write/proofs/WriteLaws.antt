-- A body whose fields are in range stands for its content, and any other for nothing that is written; a scratch with room for one octet more than is written holds the message or shows that it is too long.
-- Assumes nothing.
use Prim.Native.Nat.{ℕ, ◌+◌, ◌-◌, ◌≤◌, ◌<◌, min}
use mathlib.Core.Path.{◌≡◌, refl, sym, ◌∙◌}
use mathlib.Core.List.{List, [], ◌∷◌, ◌++◌}
use mathlib.Core.Bool.{Bool, true, false, ◌&&◌, cond, and-eq-true_iff}
use mathlib.Core.Logic.{◌⊎◌, inl, inr}
use mathlib.Core.Option.{none, some, map}
use lib.ListN.{length, take}
use lib.Seq.{take_all}
use lib.Dec.{leb}
use native.Mathlib.Omega.{arith}
use borrow.Author.Tests.{le-leb, lt-leb}
use Rattle.std.specs.Prelude.{Result, Err}
use Rattle.octets.specs.declared.Refusal.{Refusal}
use Rattle.octets.specs.declared.Refusal.TheVariants.{OutOfRange}
use Rattle.octets.specs.Append.{next_of, Appends}
use Rattle.octets.specs.Puts.{bounded, Puts}
use Rattle.octets.proofs.AppendLaws.{append_nil, append_then}
use Rattle.octets.proofs.CaseLaws.{by_bool}
use Rattle.octets.proofs.PutsLaws.{puts_none, scratch_text}
use Rattle.sdp.specs.Written.{lines_text}
use Rattle.address.specs.declared.Address.{Address}
use Rattle.address.specs.Kinds.{is_unicast}
use Rattle.media.specs.declared.Stream.{Stream as Places}
use Rattle.media.specs.Stream.{Stream}
use Rattle.media.specs.Meaning.{stream_by, stream_inside, stream_in}
use Rattle.ipbcp.specs.declared.Body.{Body}
use Rattle.ipbcp.specs.declared.Body.TheVariants as body
use Rattle.ipbcp.specs.declared.MessageType.{MessageType}
use Rattle.ipbcp.specs.Writing.{Content, request_content, accepted_content, confused_content, rejected_content, version_text, origin_text, session_text, connection_text, time_text, ipbcp_text, content_type, media_lines, stream_lines, message_lines, message_text, right_media, right_attributes, right_content, message_octets, message_octets_in, most_written}
use Rattle.ipbcp.specs.Meaning.{content_in}
use Rattle.ipbcp_write.specs.Private.{content_by, body_type, writable_stream, writable_body}
use Rattle.ipbcp_write.proofs.LineLaws.{lines_append}

-- ---- the parts of a message
module _ (m : List ℕ) (b : Body) (l : List ℕ) (at : ℕ) where
  pub body_stream : (s : Places) → (b ≡ body.Request s) ⊎ (b ≡ body.Accepted s) → (r : ℕ) (f : List ℕ) → Appends l at (lines_text (stream_lines (stream_by m s))) r f
      → Appends l at (lines_text (media_lines (content_by m b))) r f
  unfolding content_by media_lines
  body_stream s (inl e) r f p = rw e p
  body_stream s (inr e) r f p = rw e p

  pub body_none : (b ≡ body.Confused) ⊎ (b ≡ body.Rejected) → Appends l at (lines_text (media_lines (content_by m b))) at l
  unfolding content_by media_lines lines_text
  body_none (inl e) = rw e (append_nil l at)
  body_none (inr e) = rw e (append_nil l at)

kind_is : (m : List ℕ) (b : Body) → body_type b ≡ content_type (content_by m b)
unfolding body_type content_type content_by
kind_is m (body.Request s) = refl
kind_is m (body.Accepted s) = refl
kind_is m body.Confused = refl
kind_is m body.Rejected = refl

-- the opening lines, those of time and type, and the others, one after the other
pub message_then : (own : Address) (m : List ℕ) (b : Body) (k : MessageType) → k ≡ body_type b → (l f g h : List ℕ) (at x y r : ℕ)
    → Appends g y (lines_text (media_lines (content_by m b))) r h → Appends f x (lines_text (time_text ∷ ipbcp_text k ∷ [])) y g
    → Appends l at (lines_text (version_text ∷ origin_text own ∷ session_text ∷ connection_text own ∷ [])) x f
    → Appends l at (message_text own (content_by m b)) r h
unfolding message_text message_lines
message_then own m b k e l f g h at x y r p q o =
    let i : k ≡ content_type (content_by m b) = e ∙ kind_is m b in
    let first = version_text ∷ origin_text own ∷ session_text ∷ connection_text own ∷ [] in
    let then = time_text ∷ ipbcp_text k ∷ [] in
    let ms = media_lines (content_by m b) in
    rw (← i, lines_append first (then ++ ms), lines_append then ms)
    (append_then l f h (lines_text first) _ at x r (append_then f g h (lines_text then) (lines_text ms) x y r p q) o)

-- ---- the ranges
module _ (own : Address) (m : List ℕ) where
  right_of : (c : Content) → is_unicast own ≡ true → right_content c ≡ true → message_octets own c ≡ bounded most_written (message_text own c)
  unfolding message_octets bounded
  right_of c u h = rw (u, h)

  wrong_of : (c : Content) → (is_unicast own && right_content c) ≡ false → message_octets own c ≡ none
  unfolding message_octets
  wrong_of c h = go (is_unicast own) (right_content c) h
    where
      go : (u v : Bool) → (u && v) ≡ false → cond (u && (v && leb (length (message_text own c)) most_written)) (some (message_text own c)) none ≡ none
      go true true e = let z : ◌≡◌ {A = ℕ} 0 1 = cc in absurd (omega arith)
      go true false e = refl
      go false v e = refl

  stream_right : (s : Places) (f : Stream → Content) → right_content (f (stream_by m s)) ≡ (right_media (stream_by m s) && right_attributes (stream_by m s)) → is_unicast own ≡ true → writable_stream m s ≡ true
      → message_octets_in own (map f (stream_in m s)) ≡ bounded most_written (message_text own (f (stream_by m s)))
  unfolding writable_stream stream_in message_octets_in
  stream_right s f is u h =
      let a = (and-eq-true_iff (stream_inside m s) (right_media (stream_by m s) && right_attributes (stream_by m s))).0 h in
      rw a.0 (right_of (f (stream_by m s)) u (is ∙ a.1))

  stream_wrong : (s : Places) (f : Stream → Content) → right_content (f (stream_by m s)) ≡ (right_media (stream_by m s) && right_attributes (stream_by m s)) → (is_unicast own && writable_stream m s) ≡ false
      → message_octets_in own (map f (stream_in m s)) ≡ none
  unfolding writable_stream stream_in message_octets_in
  stream_wrong s f is h =
      by_bool (stream_inside m s) _
      (λ e. rw e (wrong_of (f (stream_by m s)) (let z : (is_unicast own && (right_media (stream_by m s) && right_attributes (stream_by m s))) ≡ false = rw e at h in rw is z)))
      (λ e. rw e)

  body_right : (b : Body) → is_unicast own ≡ true → writable_body m b ≡ true → message_octets_in own (content_in m b) ≡ bounded most_written (message_text own (content_by m b))
  unfolding writable_body content_in content_by right_content message_octets_in
  body_right (body.Request s) u h = stream_right s request_content refl u h
  body_right (body.Accepted s) u h = stream_right s accepted_content refl u h
  body_right body.Confused u h = right_of confused_content u refl
  body_right body.Rejected u h = right_of rejected_content u refl

  body_wrong : (b : Body) → (is_unicast own && writable_body m b) ≡ false → message_octets_in own (content_in m b) ≡ none
  unfolding writable_body content_in right_content message_octets_in
  body_wrong (body.Request s) h = stream_wrong s request_content refl h
  body_wrong (body.Accepted s) h = stream_wrong s accepted_content refl h
  body_wrong body.Confused h = wrong_of confused_content h
  body_wrong body.Rejected h = wrong_of rejected_content h

  -- t and v are what the code found of the address and of the body
  module _ (b : Body) (l : List ℕ) (t : Bool) (is : t ≡ is_unicast own) where
    pub writes_no_address : t ≡ false → Puts (message_octets_in own (content_in m b)) l (Err OutOfRange) l
    writes_no_address e =
        let x : (is_unicast own && writable_body m b) ≡ false = let y : is_unicast own ≡ false = sym is ∙ e in rw y in
        rw (body_wrong b x) (puts_none l)

    module _ (yes : t ≡ true) (v : Bool) (be : v ≡ writable_body m b) where
      unicast : is_unicast own ≡ true
      unicast = sym is ∙ yes

      pub writes_none : v ≡ false → Puts (message_octets_in own (content_in m b)) l (Err OutOfRange) l
      writes_none e =
          let x : (is_unicast own && writable_body m b) ≡ false = let y : writable_body m b ≡ false = sym be ∙ e in rw (unicast, y) in
          rw (body_wrong b x) (puts_none l)

      pub writes_right : v ≡ true → (r : Result ℕ Refusal) (f : List ℕ) → Puts (bounded most_written (message_text own (content_by m b))) l r f → Puts (message_octets_in own (content_in m b)) l r f
      writes_right e r f p = rw (body_right b unicast (sym be ∙ e)) p

pub ruleset writing = (writes_no_address, writes_none, writes_right)

-- ---- the scratch: n octets of it hold the text t, or what of it they can
module _ (t z g l : List ℕ) (n : ℕ) (p : Appends z 0 t n g) (size : length z ≡ most_written + 1) where
  pub scratch_long : most_written < n → Puts (bounded most_written t) l (Err OutOfRange) l
  unfolding bounded next_of
  scratch_long h = rw (lt-leb (length t) most_written (let e : n ≡ 0 + min (length z - 0) (length t) = p.next in omega arith)) (puts_none l)

  pub scratch_short : n ≤ most_written → (x : List ℕ) → x ≡ g → (r : Result ℕ Refusal) (f : List ℕ) → Puts (some (take n x)) l r f → Puts (bounded most_written t) l r f
  unfolding bounded next_of
  scratch_short h x is r f q =
      let e : n ≡ 0 + min (length z - 0) (length t) = p.next in
      let few : length t ≤ most_written = omega arith in
      let o : n - 0 ≡ n = omega arith in
      let y : take (n - 0) g ≡ t = scratch_text z g t n p (most_written + 1) size ∙ take_all (most_written + 1) t (omega arith) in
      rw (le-leb (length t) most_written few) (rw (is, ← o, y) at q)

pub ruleset scratching = (scratch_long, scratch_short)
