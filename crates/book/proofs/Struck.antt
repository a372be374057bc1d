-- Steps of the proof of demand 3 (`Demand3` in `Demand` of `endpoint`), for any rule that gives a verdict on book and event: what is
-- asked of the rule is `Laws`, what then holds of the log and of the lines that are left is `Struck`, and `struck` shows it.
-- Assumes nothing.
use Prim.Native.Nat.{ℕ}
use mathlib.Core.Path.{◌≡◌, refl, sym, ◌∙◌, ap}
use mathlib.Core.List.{List, [], ◌∷◌, ◌++◌, map, map-append, foldl, foldl-append, Sublistᴰ}
use mathlib.Core.Option.{Option, none, some}
use Rattle.book.specs.declared.Side.{Side}
use Rattle.book.specs.Book.{Book, idle, await_setup, up, await_change, Verdict, refused, discarded, opened, agreed, failed, released, request_confused, request_right, request_wrong}
use Rattle.book.specs.Book.{settled, closed, moved, replied}
use Rattle.book.specs.Strike.{LogLine, Log, Sheet, undropped, events_of, attempt_struck, kept_after, before_open, in_force_by, last_settled}
use Rattle.book.specs.Strike.{log_line, logged, log_of, marked, sheet_of, kept_of}

module _ {A : Type 0} where
  part_more : {xs ys : List A} (l : A) → Sublistᴰ xs ys → Sublistᴰ xs (ys ++ (l ∷ []))
  part_more l Sublistᴰ.slnil = Sublistᴰ.cons Sublistᴰ.slnil
  part_more l (Sublistᴰ.cons s) = Sublistᴰ.cons (part_more l s)
  part_more l (Sublistᴰ.cons-cons e s) = Sublistᴰ.cons-cons e (part_more l s)

  part_both : {xs ys : List A} (l : A) → Sublistᴰ xs ys → Sublistᴰ (xs ++ (l ∷ [])) (ys ++ (l ∷ []))
  part_both l Sublistᴰ.slnil = Sublistᴰ.cons-cons refl Sublistᴰ.slnil
  part_both l (Sublistᴰ.cons s) = Sublistᴰ.cons (part_both l s)
  part_both l (Sublistᴰ.cons-cons e s) = Sublistᴰ.cons-cons e (part_both l s)

module _ {Bearer Request Event : Type 0} (rule : Book Bearer Request → Event → Verdict Bearer Request) where
  -- what is asked of the rule
  pub record Laws (exchanged : Event → Option Bearer) : Type 0 where
    -- no command is taken while a Request is open
    pub opened_setup : (p : Request) (e : Event) (q : Request) (o : List ℕ) → rule (await_setup p) e ≡ opened q o → ⊥
    pub opened_change : (s : Side) (b : Bearer) (p : Request) (e : Event) (q : Request) (o : List ℕ) → rule (await_change s b p) e ≡ opened q o → ⊥
    -- a release does not look at an open change
    pub released_change : (s : Side) (b : Bearer) (p : Request) (e : Event) → rule (await_change s b p) e ≡ released → rule (up s b) e ≡ released
    -- no Request is judged while a set-up is open, and one that is judged right is so whether or not a change is open
    pub accepted_setup : (p : Request) (e : Event) (a : Bearer) (o : List ℕ) → rule (await_setup p) e ≡ request_right a o → ⊥
    pub accepted_change : (s : Side) (b : Bearer) (p : Request) (e : Event) (a : Bearer) (o : List ℕ) → rule (await_change s b p) e ≡ request_right a o → rule (up s b) e ≡ request_right a o
    -- an exchange settles the bearer that its message names
    pub agreed_names : (k : Book Bearer Request) (e : Event) (b : Bearer) → rule k e ≡ agreed b → exchanged e ≡ some b
    pub accepted_names : (k : Book Bearer Request) (e : Event) (b : Bearer) (o : List ℕ) → rule k e ≡ request_right b o → exchanged e ≡ some b

  -- what then holds of every list of events
  pub record Struck (exchanged : Event → Option Bearer) (es : List Event) : Type 0 where
    -- what is left are lines of the run, in its order
    pub part : Sublistᴰ (kept_of rule es) (log_of rule es).lines
    -- the events left, given to another fresh endpoint, get the same replies, with the same bearer in force after each (none drops
    -- a change of ours, since a change that was dropped is struck)
    pub same_lines : (log_of rule (events_of (kept_of rule es))).lines ≡ map undropped (kept_of rule es)
    -- they leave the same book, and so the same bearer
    pub same_book : (log_of rule (events_of (kept_of rule es))).book ≡ (log_of rule es).book
    -- the bearer in force is that of the last successful exchange since the last release that was not refused
    pub in_force : settled (log_of rule es).book ≡ last_settled exchanged (log_of rule es).lines

  -- the events of the lines, given to a fresh endpoint, give the lines and leave the book k
  abbrev Replays : List (LogLine Bearer Event) → Book Bearer Request → Type 0
  Replays ls k = log_of rule (events_of ls) ≡ record { book = k; lines = map undropped ls }

  -- the line of an event whose verdict is v
  abbrev line_by : Book Bearer Request → Event → Verdict Bearer Request → LogLine Bearer Event
  line_by k e v = record { event = e; reply = replied k v; bearer = settled (moved k v) }

  -- one event more, whose line is l but for `dropped`
  replays_more : (ls : List (LogLine Bearer Event)) (k : Book Bearer Request) (l : LogLine Bearer Event) (v : Verdict Bearer Request)
      → rule k l.event ≡ v → line_by k l.event v ≡ undropped l → Replays ls k → Replays (ls ++ (l ∷ [])) (moved k v)
  unfolding log_of
  replays_more ls k l v e same r =
      ap (λ es. log_of rule es) (map-append (λ (x : LogLine Bearer Event). x.event) ls (l ∷ []))
      ∙ foldl-append (logged rule) (record { book = idle; lines = [] }) (events_of ls) (l.event ∷ [])
      ∙ ap (λ (g : Log Bearer Request Event). logged rule g l.event) r
      ∙ rw (e, same, map-append) refl

  -- what holds of the lines of a book with no open Request holds with the open attempt struck
  struck_same : (k : Book Bearer Request) (before kept kept' : List (LogLine Bearer Event))
      → Replays kept' k → Replays (attempt_struck k before kept) (closed k) → Replays (attempt_struck k before kept') (closed k)
  struck_same idle before kept kept' r t = r
  struck_same (await_setup q) before kept kept' r t = t
  struck_same (up s b) before kept kept' r t = r
  struck_same (await_change s b q) before kept kept' r t = t

  -- once closed, nothing more is struck
  closed_same : (k : Book Bearer Request) (before before' kept : List (LogLine Bearer Event))
      → Replays (attempt_struck k before kept) (closed k) → Replays (attempt_struck (closed k) before' (attempt_struck k before kept)) (closed (closed k))
  closed_same idle before before' kept r = r
  closed_same (await_setup q) before before' kept r = r
  closed_same (up s b) before before' kept r = r
  closed_same (await_change s b q) before before' kept r = r

  module _ {exchanged : Event → Option Bearer} (laws : Laws exchanged) where
    -- the lines that are left replay, and so do those that would be left with the open attempt struck
    abbrev Holds : Book Bearer Request → List (LogLine Bearer Event) → List (LogLine Bearer Event) → Type 0
    Holds k before kept = Replays kept k × Replays (attempt_struck k before kept) (closed k)

    holds_more : (k : Book Bearer Request) (before kept : List (LogLine Bearer Event)) (e : Event) (v : Verdict Bearer Request) → rule k e ≡ v
        → Holds k before kept → Holds (moved k v) (before_open before kept v) (kept_after k before kept (line_by k e v) v)
    holds_more k before kept e (refused n) h (r, t) =
        let r' = replays_more kept k (line_by k e (refused n)) (refused n) h refl r in
        (r', struck_same k before kept _ r' t)
    holds_more k before kept e discarded h (r, t) =
        let r' = replays_more kept k (line_by k e discarded) discarded h refl r in
        (r', struck_same k before kept _ r' t)
    holds_more idle before kept e (opened q o) h (r, t) =
        (replays_more kept idle (line_by idle e (opened q o)) (opened q o) h refl r, r)
    holds_more (await_setup p) before kept e (opened q o) h (r, t) = absurd (laws.opened_setup p e q o h)
    holds_more (up s b) before kept e (opened q o) h (r, t) =
        (replays_more kept (up s b) (line_by (up s b) e (opened q o)) (opened q o) h refl r, r)
    holds_more (await_change s b p) before kept e (opened q o) h (r, t) = absurd (laws.opened_change s b p e q o h)
    holds_more idle before kept e (agreed b) h (r, t) =
        let r' = replays_more kept idle (line_by idle e (agreed b)) (agreed b) h refl r in (r', r')
    holds_more (await_setup p) before kept e (agreed b) h (r, t) =
        let r' = replays_more kept (await_setup p) (line_by (await_setup p) e (agreed b)) (agreed b) h refl r in (r', r')
    holds_more (up s a) before kept e (agreed b) h (r, t) =
        let r' = replays_more kept (up s a) (line_by (up s a) e (agreed b)) (agreed b) h refl r in (r', r')
    holds_more (await_change s a p) before kept e (agreed b) h (r, t) =
        let r' = replays_more kept (await_change s a p) (line_by (await_change s a p) e (agreed b)) (agreed b) h refl r in (r', r')
    holds_more k before kept e failed h (r, t) = (t, closed_same k before before kept t)
    holds_more idle before kept e released h (r, t) = (t, t)
    holds_more (await_setup p) before kept e released h (r, t) = (t, t)
    holds_more (up s b) before kept e released h (r, t) =
        let r' = replays_more kept (up s b) (line_by (up s b) e released) released h refl r in (r', r')
    holds_more (await_change s b p) before kept e released h (r, t) =
        let r' = replays_more before (up s b) (line_by (await_change s b p) e released) released (laws.released_change s b p e h) refl t in (r', r')
    holds_more k before kept e (request_confused o) h (r, t) = (r, t)
    holds_more idle before kept e (request_right b o) h (r, t) =
        let r' = replays_more kept idle (line_by idle e (request_right b o)) (request_right b o) h refl r in (r', r')
    holds_more (await_setup p) before kept e (request_right b o) h (r, t) = absurd (laws.accepted_setup p e b o h)
    holds_more (up s a) before kept e (request_right b o) h (r, t) =
        let r' = replays_more kept (up s a) (line_by (up s a) e (request_right b o)) (request_right b o) h refl r in (r', r')
    holds_more (await_change s a p) before kept e (request_right b o) h (r, t) =
        let r' = replays_more before (up s a) (line_by (await_change s a p) e (request_right b o)) (request_right b o) (laws.accepted_change s a p e b o h) refl t in (r', r')
    holds_more k before kept e (request_wrong o) h (r, t) = (t, closed_same k before before kept t)

    -- the bearer in force after an event, by the reply to it
    pub held_more : (k : Book Bearer Request) (e : Event) (v : Verdict Bearer Request) → rule k e ≡ v
        → settled (moved k v) ≡ in_force_by (replied k v) (settled k) (exchanged e)
    held_more k e (refused n) h = refl
    held_more k e discarded h = refl
    held_more idle e (opened q o) h = refl
    held_more (await_setup p) e (opened q o) h = refl
    held_more (up s a) e (opened q o) h = refl
    held_more (await_change s a p) e (opened q o) h = refl
    held_more idle e (agreed b) h = sym (laws.agreed_names idle e b h)
    held_more (await_setup p) e (agreed b) h = sym (laws.agreed_names (await_setup p) e b h)
    held_more (up s a) e (agreed b) h = sym (laws.agreed_names (up s a) e b h)
    held_more (await_change s a p) e (agreed b) h = sym (laws.agreed_names (await_change s a p) e b h)
    held_more idle e failed h = refl
    held_more (await_setup p) e failed h = refl
    held_more (up s a) e failed h = refl
    held_more (await_change s a p) e failed h = refl
    held_more k e released h = refl
    held_more k e (request_confused o) h = refl
    held_more idle e (request_right b o) h = sym (laws.accepted_names idle e b o h)
    held_more (await_setup p) e (request_right b o) h = sym (laws.accepted_names (await_setup p) e b o h)
    held_more (up s a) e (request_right b o) h = sym (laws.accepted_names (up s a) e b o h)
    held_more (await_change s a p) e (request_right b o) h = sym (laws.accepted_names (await_change s a p) e b o h)
    held_more idle e (request_wrong o) h = refl
    held_more (await_setup p) e (request_wrong o) h = refl
    held_more (up s a) e (request_wrong o) h = refl
    held_more (await_change s a p) e (request_wrong o) h = refl

    -- both the lines that are left and those before the open attempt are lines of the run
    abbrev Parts : List (LogLine Bearer Event) → List (LogLine Bearer Event) → List (LogLine Bearer Event) → Type 0
    Parts before kept lines = Sublistᴰ before lines × Sublistᴰ kept lines

    part_struck : (k : Book Bearer Request) (before kept lines : List (LogLine Bearer Event)) → Parts before kept lines → Sublistᴰ (attempt_struck k before kept) lines
    part_struck idle before kept lines (x, y) = y
    part_struck (await_setup q) before kept lines (x, y) = x
    part_struck (up s b) before kept lines (x, y) = y
    part_struck (await_change s b q) before kept lines (x, y) = x

    parts_more : (k : Book Bearer Request) (before kept lines : List (LogLine Bearer Event)) (l : LogLine Bearer Event) (v : Verdict Bearer Request)
        → Parts before kept lines → Parts (before_open before kept v) (kept_after k before kept l v) (lines ++ (l ∷ []))
    parts_more k before kept lines l (refused n) (x, y) = (part_more l x, part_both l y)
    parts_more k before kept lines l discarded (x, y) = (part_more l x, part_both l y)
    parts_more k before kept lines l (opened q o) (x, y) = (part_more l y, part_both l y)
    parts_more k before kept lines l (agreed b) (x, y) = (part_more l x, part_both l y)
    parts_more k before kept lines l failed (x, y) = (part_more l x, part_more l (part_struck k before kept lines (x, y)))
    parts_more idle before kept lines l released (x, y) = (part_more l x, part_more l y)
    parts_more (await_setup q) before kept lines l released (x, y) = (part_more l x, part_more l x)
    parts_more (up s b) before kept lines l released (x, y) = (part_more l x, part_both l y)
    parts_more (await_change s b q) before kept lines l released (x, y) = (part_more l x, part_both l x)
    parts_more k before kept lines l (request_confused o) (x, y) = (part_more l x, part_more l y)
    parts_more k before kept lines l (request_right b o) (x, y) = (part_more l x, part_both l (part_struck k before kept lines (x, y)))
    parts_more k before kept lines l (request_wrong o) (x, y) = (part_more l x, part_more l (part_struck k before kept lines (x, y)))

    -- what holds of a sheet and a log of the same events
    record Agree (s : Sheet Bearer Request Event) (g : Log Bearer Request Event) : Type 0 where
      book : s.book ≡ g.book
      holds : Replays s.kept s.book
      part : Sublistᴰ s.kept g.lines
      in_force : settled g.book ≡ last_settled exchanged g.lines

    agree : (es : List Event) (k : Book Bearer Request) (before kept lines : List (LogLine Bearer Event))
        → Holds k before kept → Parts before kept lines → settled k ≡ last_settled exchanged lines
        → Agree (foldl (marked rule) (record { book = k; kept = kept; before = before }) es) (foldl (logged rule) (record { book = k; lines = lines }) es)
    agree [] k before kept lines h p f = record { book = refl; holds = h.0; part = p.1; in_force = f }
    agree (e ∷ es) k before kept lines h p f =
        agree es _ _ _ _ (holds_more k before kept e (rule k e) refl h) (parts_more k before kept lines (log_line rule k e) (rule k e) p)
        (held_more k e (rule k e) refl
        ∙ ap (λ (was : Option Bearer). in_force_by (replied k (rule k e)) was (exchanged e)) f
        ∙ sym (foldl-append (λ (was : Option Bearer) (l : LogLine Bearer Event). in_force_by l.reply was (exchanged l.event)) none lines (log_line rule k e ∷ [])))

    pub struck : (es : List Event) → Struck exchanged es
    unfolding log_of sheet_of
    struck es =
        let a = agree es idle [] [] [] (refl, refl) (Sublistᴰ.slnil, Sublistᴰ.slnil) refl in
        record {
          part = a.part;
          same_lines = ap (λ (g : Log Bearer Request Event). g.lines) a.holds;
          same_book = ap (λ (g : Log Bearer Request Event). g.book) a.holds ∙ a.book;
          in_force = a.in_force;
        }
