-- Document 01, "Failed attempts": the book, what it holds, how each event moves it, and the reply to the event, for any type of bearer
-- and of Request. The rules of "One endpoint" give each event a verdict. Each line of "Failed attempts" has one, or two: refused and
-- discarded, a Request judged right or wrong. The move and the reply follow from book and verdict.
use Rattle.std.specs.Prelude.{ℕ, Bool, true, false, List, []}
use Rattle.std.proofs.Math.Option.{Option, none, some}
use Rattle.octets.specs.declared.Refusal.{Refusal}
use Rattle.book.specs.declared.Side.{Side}
use Rattle.book.specs.declared.Side.TheVariants.{I, R}
use Rattle.book.specs.declared.State.{State}
use Rattle.book.specs.declared.State.TheVariants.{Idle, AwaitSetup, Up, AwaitChange}
use Rattle.book.specs.declared.Notice.{Notice}

-- The book holds the side, a settled bearer and an open Request. Its four cases are the four states: up and awaiting change have
-- a settled bearer, both awaiting states an open Request. While idle it holds nothing, no side either. Whoever awaits a set-up
-- sent its Request, and so is I.
pub data Book (Bearer Request : Type 0) : Type 0 where
  idle : Book Bearer Request
  await_setup : Request → Book Bearer Request
  up : Side → Bearer → Book Bearer Request
  await_change : Side → Bearer → Request → Book Bearer Request

-- the verdict of the rules on an event
pub data Verdict (Bearer Request : Type 0) : Type 0 where
  refused : Refusal → Verdict Bearer Request
  discarded : Verdict Bearer Request
  -- a command: the Request that it opens, and its octets
  opened : Request → List ℕ → Verdict Bearer Request
  -- a right Accepted, and the bearer that it settles
  agreed : Bearer → Verdict Bearer Request
  -- another answer, or the awaited timer, that ends the attempt
  failed : Verdict Bearer Request
  released : Verdict Bearer Request
  -- a Request of another version, and the Confused written
  request_confused : List ℕ → Verdict Bearer Request
  -- a Request judged right, the bearer that it settles and the Accepted written
  request_right : Bearer → List ℕ → Verdict Bearer Request
  -- a Request judged wrong, and the Rejected written
  request_wrong : List ℕ → Verdict Bearer Request

-- the reply to an event: why it is refused and nothing else; or the state after it, the notice, the octets written, and whether it
-- cancelled our pending change (`dropped`)
pub data Reply : Type 0 where
  refusal : Refusal → Reply
  done : State → Notice → List ℕ → Bool → Reply

module _ {Bearer Request : Type 0} where
  abbrev pub state_of : Book Bearer Request → State
  state_of idle = Idle
  state_of (await_setup q) = AwaitSetup
  state_of (up s b) = Up
  state_of (await_change s b q) = AwaitChange

  -- the bearer in force
  abbrev pub settled : Book Bearer Request → Option Bearer
  settled idle = none
  settled (await_setup q) = none
  settled (up s b) = some b
  settled (await_change s b q) = some b

  -- the open Request
  abbrev pub awaited : Book Bearer Request → Option Request
  awaited idle = none
  awaited (await_setup q) = some q
  awaited (up s b) = none
  awaited (await_change s b q) = some q

  -- a peer's Request is discarded while a set-up is awaited, and at I while a change is
  abbrev pub ignores : Book Bearer Request → Bool
  ignores idle = false
  ignores (await_setup q) = true
  ignores (up s b) = false
  ignores (await_change I b q) = true
  ignores (await_change R b q) = false

  -- the open Request is closed; the bearer in force stays
  abbrev pub closed : Book Bearer Request → Book Bearer Request
  closed idle = idle
  closed (await_setup q) = idle
  closed (up s b) = up s b
  closed (await_change s b q) = up s b

  -- q becomes the open Request
  abbrev pub opening : Request → Book Bearer Request → Book Bearer Request
  opening q idle = await_setup q
  opening q (await_setup p) = await_setup q
  opening q (up s b) = await_change s b q
  opening q (await_change s b p) = await_change s b q

  -- b becomes the bearer in force, and no Request is open; after a set-up by the peer's Request, in idle, we are R
  abbrev pub settling : Bearer → Book Bearer Request → Book Bearer Request
  settling b idle = up R b
  settling b (await_setup q) = up I b
  settling b (up s a) = up s b
  settling b (await_change s a q) = up s b

  -- how a verdict moves the book
  abbrev pub moved : Book Bearer Request → Verdict Bearer Request → Book Bearer Request
  moved k (refused e) = k
  moved k discarded = k
  moved k (opened q o) = opening q k
  moved k (agreed b) = settling b k
  moved k failed = closed k
  moved k released = idle
  moved k (request_confused o) = k
  moved k (request_right b o) = settling b k
  moved k (request_wrong o) = closed k

  -- the first value if no bearer is in force, the second if one is
  abbrev pub by_bearer : {A : Type 0} → Book Bearer Request → A → A → A
  by_bearer idle m n = m
  by_bearer (await_setup q) m n = m
  by_bearer (up s b) m n = n
  by_bearer (await_change s b q) m n = n

  -- whether a peer's Request that is judged cancels our pending change; at I none is judged while a change is awaited (`ignores`)
  abbrev pub drops : Book Bearer Request → Bool
  drops idle = false
  drops (await_setup q) = false
  drops (up s b) = false
  drops (await_change s b q) = true

  -- the reply to an event that finds the book k and is given this verdict
  abbrev pub replied : Book Bearer Request → Verdict Bearer Request → Reply
  replied k (refused e) = refusal e
  replied k discarded = done (state_of k) Notice.Discarded [] false
  replied k (opened q o) = done (state_of (opening q k)) Notice.None o false
  replied k (agreed b) = done Up (by_bearer k Notice.Up Notice.Changed) [] false
  replied k failed = done (state_of (closed k)) (by_bearer k Notice.SetupFailed Notice.ChangeFailed) [] false
  replied k released = done Idle Notice.Released [] false
  replied k (request_confused o) = done (state_of k) Notice.Confused o false
  replied k (request_right b o) = done Up (by_bearer k Notice.Up Notice.Changed) o (drops k)
  replied k (request_wrong o) = done (state_of (closed k)) Notice.Rejected o (drops k)
