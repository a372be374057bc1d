-- Document 01, "Failed attempts": the log of a list of events, and which of its lines are left when each failed attempt is struck
-- out, for any rule that gives a verdict on book and event. What is claimed of the two is demand 3, in `Demand` of `endpoint`.
use Rattle.std.specs.Prelude.{false}
use mathlib.Core.List.{List, [], ◌∷◌, ◌++◌, map, foldl}
use Rattle.std.proofs.Math.Option.{Option, none}
use Rattle.book.specs.declared.Notice.{Notice}
use Rattle.book.specs.declared.Notice.TheVariants.{None, Up, Changed, Released, SetupFailed, ChangeFailed, Rejected, Confused, Discarded}
use Rattle.book.specs.Book.{Book, idle, await_setup, up, await_change, Verdict, refused, discarded, opened, agreed, failed, released, request_confused, request_right, request_wrong}
use Rattle.book.specs.Book.{Reply, refusal, done, settled, moved, replied, by_bearer}

-- an event, the reply to it, and the bearer in force after it
pub record LogLine (Bearer Event : Type 0) : Type 0 where
  pub event : Event
  pub reply : Reply
  pub bearer : Option Bearer

abbrev pub LogLines : Type 0 → Type 0 → Type 0
LogLines Bearer Event = List (LogLine Bearer Event)

-- the book after some events, and their lines
pub record Log (Bearer Request Event : Type 0) : Type 0 where
  pub book : Book Bearer Request
  pub lines : LogLines Bearer Event

-- The same with failed attempts struck: the lines that are left, and those that were left when the open Request's command came,
-- which have no meaning while no Request is open.
pub record Sheet (Bearer Request Event : Type 0) : Type 0 where
  pub book : Book Bearer Request
  pub kept : LogLines Bearer Event
  pub before : LogLines Bearer Event

-- the same reply, with no change of ours dropped
abbrev pub undropped_reply : Reply → Reply
undropped_reply (refusal e) = refusal e
undropped_reply (done s n o d) = done s n o false

module _ {Bearer : Type 0} where
  -- the bearer in force after a notice: that of the exchange, none after a release, otherwise the one before it
  abbrev pub in_force_after : Notice → Option Bearer → Option Bearer → Option Bearer
  in_force_after None was new = was
  in_force_after Up was new = new
  in_force_after Changed was new = new
  in_force_after Released was new = none
  in_force_after SetupFailed was new = was
  in_force_after ChangeFailed was new = was
  in_force_after Rejected was new = was
  in_force_after Confused was new = was
  in_force_after Discarded was new = was

  -- the same after a reply; a refusal changes nothing
  abbrev pub in_force_by : Reply → Option Bearer → Option Bearer → Option Bearer
  in_force_by (refusal e) was new = was
  in_force_by (done s n o d) was new = in_force_after n was new

module _ {Bearer Event : Type 0} where
  abbrev pub undropped : LogLine Bearer Event → LogLine Bearer Event
  undropped l = record { event = l.event; reply = undropped_reply l.reply; bearer = l.bearer }

  abbrev pub events_of : LogLines Bearer Event → List Event
  events_of ls = map (λ l. l.event) ls

  -- the bearer of the last successful exchange since the last release that was not refused
  abbrev pub last_settled : (Event → Option Bearer) → LogLines Bearer Event → Option Bearer
  last_settled exchanged ls = foldl {B = Option Bearer} (λ was l. in_force_by l.reply was (exchanged l.event)) none ls

module _ {Bearer Request Event : Type 0} where
  -- striking the open attempt, if there is one, leaves the lines from before its command
  abbrev pub attempt_struck : Book Bearer Request → LogLines Bearer Event → LogLines Bearer Event → LogLines Bearer Event
  attempt_struck idle before kept = kept
  attempt_struck (await_setup q) before kept = before
  attempt_struck (up s b) before kept = kept
  attempt_struck (await_change s b q) before kept = before

  -- The lines that are left after an event with this verdict. l is the event's own line and k is the book before it; `kept` are the
  -- lines that were left until now, and `before` those that were left when the open Request's command came.
  abbrev pub kept_after : Book Bearer Request → LogLines Bearer Event → LogLines Bearer Event → LogLine Bearer Event → Verdict Bearer Request → LogLines Bearer Event
  -- refused or discarded: nothing is struck
  kept_after k before kept l (refused e) = kept ++ (l ∷ [])
  kept_after k before kept l discarded = kept ++ (l ∷ [])
  -- a command, or a right Accepted: nothing is struck
  kept_after k before kept l (opened q o) = kept ++ (l ∷ [])
  kept_after k before kept l (agreed b) = kept ++ (l ∷ [])
  -- another answer, or the timer: the attempt is struck, and the event with it
  kept_after k before kept l failed = attempt_struck k before kept
  -- a release: with an open set-up it is struck too (no bearer is in force); with an open change, or in up, it stays
  kept_after k before kept l released = by_bearer k (attempt_struck k before kept) (attempt_struck k before kept ++ (l ∷ []))
  -- a Request answered Confused: it alone is struck
  kept_after k before kept l (request_confused o) = kept
  -- a Request judged: an open change is struck; a right Request stays, a wrong one is struck
  kept_after k before kept l (request_right b o) = attempt_struck k before kept ++ (l ∷ [])
  kept_after k before kept l (request_wrong o) = attempt_struck k before kept

  -- the lines that were left when the open Request's command came, after an event with this verdict: only a command changes them
  abbrev pub before_open : LogLines Bearer Event → LogLines Bearer Event → Verdict Bearer Request → LogLines Bearer Event
  before_open before kept (refused e) = before
  before_open before kept discarded = before
  before_open before kept (opened q o) = kept
  before_open before kept (agreed b) = before
  before_open before kept failed = before
  before_open before kept released = before
  before_open before kept (request_confused o) = before
  before_open before kept (request_right b o) = before
  before_open before kept (request_wrong o) = before

  module _ (rule : Book Bearer Request → Event → Verdict Bearer Request) where
    -- the line of an event that finds the book k
    abbrev pub log_line : Book Bearer Request → Event → LogLine Bearer Event
    log_line k e = record { event = e; reply = replied k (rule k e); bearer = settled (moved k (rule k e)) }

    -- the log with one event more
    abbrev pub logged : Log Bearer Request Event → Event → Log Bearer Request Event
    logged g e = record { book = moved g.book (rule g.book e); lines = g.lines ++ (log_line g.book e ∷ []) }

    -- the log of a list of events, from an idle book on
    unfoldable pub log_of : List Event → Log Bearer Request Event
    log_of es = foldl logged (record { book = idle; lines = [] }) es

    -- the sheet with one event more
    abbrev pub marked : Sheet Bearer Request Event → Event → Sheet Bearer Request Event
    marked s e =
        record {
          book = moved s.book (rule s.book e);
          kept = kept_after s.book s.before s.kept (log_line s.book e) (rule s.book e);
          before = before_open s.before s.kept (rule s.book e);
        }

    -- the sheet of a list of events, from an idle book on
    unfoldable pub sheet_of : List Event → Sheet Bearer Request Event
    sheet_of es = foldl marked (record { book = idle; kept = []; before = [] }) es

    -- the lines of the log that are left when each failed attempt is struck
    abbrev pub kept_of : List Event → LogLines Bearer Event
    kept_of es = (sheet_of es).kept
