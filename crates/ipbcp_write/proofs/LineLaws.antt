-- The lines that every message has: each is appended as its parts are, one after the other.
-- Assumes nothing.
use Prim.Native.Nat.{ℕ}
use mathlib.Core.Path.{◌≡◌, refl, ap, sym, ◌∙◌}
use mathlib.Core.List.{List, [], ◌∷◌, ◌++◌, append-nil, append_assoc}
use Rattle.octets.specs.Append.{Appends}
use Rattle.octets.proofs.AppendLaws.{append_then}
use Rattle.sdp.specs.Written.{line_text, lines_text}
use Rattle.address.specs.declared.Address.{Address}
use Rattle.address.specs.declared.Address.TheVariants.{V4, V6}
use Rattle.address.specs.Canonical.{address_text}
use Rattle.ipbcp.specs.declared.MessageType.{MessageType}
use Rattle.ipbcp.specs.Types.{type_word}
use Rattle.ipbcp.specs.Writing.{family_word, host_text, version_text, origin_text, session_text, connection_text, time_text, ipbcp_text}
use Rattle.ipbcp_write.specs.Private.{host_start}

-- ---- lines one after the other
pub lines_one : (t : List ℕ) → lines_text (t ∷ []) ≡ line_text t
unfolding lines_text
lines_one t = append-nil (line_text t)

pub lines_append : (ts us : List (List ℕ)) → lines_text (ts ++ us) ≡ lines_text ts ++ lines_text us
unfolding lines_text
lines_append [] us = refl
lines_append (t ∷ ts) us =
    ap (λ (z : List ℕ). line_text t ++ z) (lines_append ts us) ∙ sym (append_assoc (line_text t) (lines_text ts) (lines_text us))

-- ---- the own address
module _ (own : Address) where
  pub family_four : (n : ℕ) → own ≡ V4 n → 73 ∷ 78 ∷ 32 ∷ 73 ∷ 80 ∷ 52 ∷ 32 ∷ [] ≡ host_start own
  unfolding family_word
  family_four n e = rw e

  pub family_six : (high low : ℕ) → own ≡ V6 high low → 73 ∷ 78 ∷ 32 ∷ 73 ∷ 80 ∷ 54 ∷ 32 ∷ [] ≡ host_start own
  unfolding family_word
  family_six high low e = rw e

module _ (own : Address) (l f g h : List ℕ) (at a b r : ℕ) where
  -- s is the text before the address
  pub host_then : (s : List ℕ) → s ≡ host_start own → Appends g b (13 ∷ 10 ∷ []) r h → Appends f a (address_text own) b g
      → Appends l at s a f → Appends l at (line_text (host_text own)) r h
  unfolding line_text host_text
  host_then s e w v u =
      let x = append_then f g h (address_text own) (13 ∷ 10 ∷ []) a b r w v in
      simp append_assoc (simp append_assoc at (append_then l f h (host_start own) _ at a r x (rw e at u)))

  pub origin_then : Appends f a (line_text (host_text own)) r g
      → Appends l at (118 ∷ 61 ∷ 48 ∷ 13 ∷ 10 ∷ 111 ∷ 61 ∷ 45 ∷ 32 ∷ 48 ∷ 32 ∷ 48 ∷ 32 ∷ []) a f
      → Appends l at (lines_text (version_text ∷ origin_text own ∷ [])) r g
  unfolding lines_text line_text origin_text
  origin_then v u =
      simp append-nil (append_then l f g (118 ∷ 61 ∷ 48 ∷ 13 ∷ 10 ∷ 111 ∷ 61 ∷ 45 ∷ 32 ∷ 48 ∷ 32 ∷ 48 ∷ 32 ∷ []) (line_text (host_text own)) at a r v u)

  pub connection_then : Appends f a (line_text (host_text own)) r g → Appends l at (115 ∷ 61 ∷ 32 ∷ 13 ∷ 10 ∷ 99 ∷ 61 ∷ []) a f
      → Appends l at (lines_text (session_text ∷ connection_text own ∷ [])) r g
  unfolding lines_text line_text connection_text
  connection_then v u = simp append-nil (append_then l f g (115 ∷ 61 ∷ 32 ∷ 13 ∷ 10 ∷ 99 ∷ 61 ∷ []) (line_text (host_text own)) at a r v u)

  pub opening_then : Appends f a (lines_text (session_text ∷ connection_text own ∷ [])) r g → Appends l at (lines_text (version_text ∷ origin_text own ∷ [])) a f
      → Appends l at (lines_text (version_text ∷ origin_text own ∷ session_text ∷ connection_text own ∷ [])) r g
  opening_then v u =
      rw (lines_append (version_text ∷ origin_text own ∷ []) (session_text ∷ connection_text own ∷ [])) (append_then l f g _ _ at a r v u)

-- ---- the type
module _ (k : MessageType) (l f : List ℕ) (at r : ℕ) where
  -- w is its word
  pub ipbcp_then : (w : List ℕ) → w ≡ type_word k → (g h : List ℕ) (a b : ℕ) → Appends h b (13 ∷ 10 ∷ []) r f → Appends g a w b h
      → Appends l at (116 ∷ 61 ∷ 48 ∷ 32 ∷ 48 ∷ 13 ∷ 10 ∷ 97 ∷ 61 ∷ 105 ∷ 112 ∷ 98 ∷ 99 ∷ 112 ∷ 58 ∷ 49 ∷ 32 ∷ []) a g
      → Appends l at (lines_text (time_text ∷ ipbcp_text k ∷ [])) r f
  unfolding lines_text line_text ipbcp_text
  ipbcp_then w e g h a b v u t =
      simp append-nil
      (append_then l g f (116 ∷ 61 ∷ 48 ∷ 32 ∷ 48 ∷ 13 ∷ 10 ∷ 97 ∷ 61 ∷ 105 ∷ 112 ∷ 98 ∷ 99 ∷ 112 ∷ 58 ∷ 49 ∷ 32 ∷ []) _ at a r
      (append_then g h f (type_word k) (13 ∷ 10 ∷ []) a b r v (rw e at u))
      t)
