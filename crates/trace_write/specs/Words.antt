-- Document 01, "Trace program": the words of the fields that are printed.
use Rattle.std.specs.Prelude.{ℕ, List, Bool, true, false}
use Rattle.octets.specs.Text.{ascii}
use Rattle.book.specs.declared.State.{State}
use Rattle.book.specs.declared.State.TheVariants as state
use Rattle.book.specs.declared.Notice.{Notice}
use Rattle.book.specs.declared.Notice.TheVariants as notice
use Rattle.endpoint.specs.Rule.{Event, set_up, change, release, t1, t2, message}

-- the kind of an event
unfoldable pub kind_word : Event → List ℕ
kind_word (set_up entry payload ptime) = ascii "U"
kind_word (change entry payload ptime) = ascii "C"
kind_word release = ascii "X"
kind_word t1 = ascii "T1"
kind_word t2 = ascii "T2"
kind_word (message m) = ascii "M"

-- the kind of a line that is no event
abbrev pub bad_word : List ℕ
bad_word = ascii "bad"

unfoldable pub state_word : State → List ℕ
state_word state.Idle = ascii "idle"
state_word state.AwaitSetup = ascii "await-setup"
state_word state.Up = ascii "up"
state_word state.AwaitChange = ascii "await-change"

unfoldable pub notice_word : Notice → List ℕ
notice_word notice.None = ascii "none"
notice_word notice.Up = ascii "up"
notice_word notice.Changed = ascii "changed"
notice_word notice.Released = ascii "released"
notice_word notice.SetupFailed = ascii "setup-failed"
notice_word notice.ChangeFailed = ascii "change-failed"
notice_word notice.Rejected = ascii "rejected"
notice_word notice.Confused = ascii "confused"
notice_word notice.Discarded = ascii "discarded"

-- whether the peer's Request cancelled our change
unfoldable pub dropped_word : Bool → List ℕ
dropped_word true = ascii "yes"
dropped_word false = ascii "no"
