-- Demand 3 holds of every run of the endpoint's methods: by their contracts a run of a fresh endpoint is the book's log, of which
-- `struck` holds, since the rules meet its laws (`rule_laws`).
-- Assumes nothing.
use Prim.Native.Nat.{ℕ}
use mathlib.Core.Path.{◌≡◌, refl, sym, ◌∙◌, ap, ap₂, subst}
use mathlib.Core.Bool.{false, cond}
use mathlib.Core.List.{List, [], ◌∷◌, ◌++◌, foldl-append, Sublistᴰ}
use lib.ListN.{length, drop}
use lib.Seq.{take_at}
use native.Mathlib.Omega.{arith}
use Rattle.std.specs.Prelude.{Result, Ok, Err}
use Rattle.octets.specs.declared.Refusal.{Refusal}
use Rattle.octets.specs.declared.Refusal.TheVariants.{BadConfiguration}
use Rattle.octets.proofs.CaseLaws.{by_bool}
use Rattle.book.specs.Book.{idle, settled, replied, refusal, done}
use Rattle.book.specs.Book as book
use Rattle.book.specs.Strike as strike
use Rattle.book.specs.Strike.{logged, log_of, last_settled}
use Rattle.book.proofs.Struck.{struck}
use Rattle.media.specs.Stream.{Stream}
use Rattle.configuration.specs.declared.Config.{Config}
use Rattle.configuration.specs.Meaning.{configuration_by, right_config, checked}
use Rattle.bearer.specs.Bearer.{Bearer}
use Rattle.bearer.specs.Meaning.{request_by, bearer_by}
use Rattle.endpoint.specs.declared.Endpoint.{Endpoint}
use Rattle.endpoint.specs.declared.Answer.{Answer}
use Rattle.endpoint.specs.declared.Created.{Created}
use Rattle.endpoint.specs.Rule.{Event, Given, rule, exchanged}
use Rattle.endpoint.specs.Step.{Inside, book_by, book_of, reply_for, out_for, Did, Creates}
use Rattle.endpoint.specs.Demand.{LogLine, reply_by, seen, Runs, begun, after, Fresh, kept, Demand3}
use Rattle.endpoint.proofs.VerdictLaws.{fresh_inside}
use Rattle.endpoint.proofs.Ruled.{rule_laws}

abbrev Log : Type 0
Log = strike.Log Bearer Stream Given

-- the rules of an endpoint's configuration
abbrev rule_of : Config → book.Book Bearer Stream → Given → book.Verdict Bearer Stream
rule_of c = rule (configuration_by c)

-- what the caller is told is the book's reply
pub told_back : (a : book.Reply) (xs : List ℕ) → reply_by (reply_for a) (out_for a xs) ≡ a
told_back (refusal n) xs = refl
told_back (done s n o d) xs = ap (λ (p : List ℕ). done s n p d) (take_at o (drop (length o) xs) (length o) refl)

-- a step adds the book's line, and leaves the book's book
stepped : (f : Endpoint) (ls : List LogLine) (x : Event) (xs ys : List ℕ) (r : Answer) → Did f x xs ys r
    → ◌≡◌ {A = Log} (record { book = book_of r.endpoint; lines = ls ++ (seen x xs ys r ∷ []) })
    (logged (rule_of f.config) (record { book = book_of f; lines = ls }) (record { event = x; room = length xs }))
stepped f ls x xs ys r did =
    let g : Given = record { event = x; room = length xs } in
    let a = replied (book_of f) (rule_of f.config (book_of f) g) in
    let told : reply_by r.reply ys ≡ a = ap₂ reply_by did.reply did.out ∙ told_back a xs in
    λ i. record { book = did.book i; lines = ls ++ (record { event = g; reply = told i; bearer = settled (did.book i) } ∷ []) }

-- a run of a fresh endpoint is the book's log
follows : (c : Config) (e : Endpoint) → Fresh c e → {gs : List Given} {ls : List LogLine} {f : Endpoint} → Runs e gs ls f
    → (f.config ≡ c) × (◌≡◌ {A = Log} (record { book = book_of f; lines = ls }) (log_of (rule_of c) gs))
unfolding log_of
follows c e h begun = (h.config, λ i. record { book = book_by (h.idle i) e.side (request_by e.request) (bearer_by e.bearer); lines = [] })
follows c e h (after {gs} {ls} {f} run x xs ys r did) =
    let p = follows c e h run in
    let g : Given = record { event = x; room = length xs } in (
      did.config ∙ p.0,
      stepped f ls x xs ys r did
          ∙ (λ i. logged (rule_of (p.0 i)) (p.1 i) g)
          ∙ sym (foldl-append (logged (rule_of c)) (record { book = idle; lines = [] }) gs (g ∷ [])),
    )

-- every list of events, with every message and buffer, on every fresh endpoint of every configuration that is not refused
pub demand3 : (c : Config) (e : Endpoint) → Fresh c e → (gs : List Given) (ls : List LogLine) (f : Endpoint) → Runs e gs ls f → Demand3 c gs ls f
demand3 c e h gs ls f run =
    let s = struck (rule_of c) (rule_laws (configuration_by c)) gs in
    let p = (follows c e h run).1 in
    record {
      by_book = ap (λ (l : Log). l.lines) p;
      part = subst (λ (xs : List LogLine). Sublistᴰ (kept c gs) xs) (sym (ap (λ (l : Log). l.lines) p)) s.part;
      same_lines = λ e' ls' f' h' run'. ap (λ (l : Log). l.lines) (follows c e' h' run').1 ∙ s.same_lines;
      same_bearer = λ e' ls' f' h' run'. ap (λ (l : Log). settled l.book) (follows c e' h' run').1 ∙ ap settled s.same_book ∙ ap (λ (l : Log). settled l.book) (sym p);
      in_force = ap (λ (l : Log). settled l.book) p ∙ s.in_force ∙ ap (λ (l : Log). last_settled (exchanged (configuration_by c)) l.lines) (sym p);
    }

-- `Endpoint::new` returns a fresh endpoint for a configuration that it does not refuse
pub opened_fresh : (c : Config) (o : Created) → Creates c o → o.checked ≡ Ok tt → Fresh c o.endpoint
unfolding checked
opened_fresh c o h e = record { right = by_bool (right_config c) _ (λ t. t) (λ t. absurd (refused t)); config = ap (λ (x : Endpoint). x.config) h.endpoint; idle = ap (λ (x : Endpoint). x.state) h.endpoint }
  where
    refused : right_config c ≡ false → ⊥
    refused t =
        let a : ◌≡◌ {A = Result Unit Refusal} (cond (right_config c) (Ok tt) (Err BadConfiguration)) (Ok tt) = sym h.checked ∙ e in
        let b : ◌≡◌ {A = Result Unit Refusal} (Err BadConfiguration) (Ok tt) = rw t at a in
        let z : ◌≡◌ {A = ℕ} 0 1 = cc in
        omega arith

-- whatever happens to such an endpoint, the texts of the Request and of the bearer that it holds lie inside their arrays
pub texts_inside : (c : Config) (o : Created) → Creates c o → {gs : List Given} {ls : List LogLine} {f : Endpoint} → Runs o.endpoint gs ls f → Inside f
texts_inside c o h begun = subst Inside (sym h.endpoint) (fresh_inside c)
texts_inside c o h (after run x xs ys r did) = did.inside (texts_inside c o h run)
