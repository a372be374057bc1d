-- The functions of `States` agree with the book's, and so each verdict's answer is the one that the book gives: by cases on the
-- state.
-- Assumes nothing.
use Prim.Native.Nat.{ℕ}
use mathlib.Core.Path.{◌≡◌, refl, ◌∙◌, ap}
use mathlib.Core.Bool.{true, cond}
use mathlib.Core.List.{List}
use mathlib.Core.Option.{none, some}
use lib.ListN.{length}
use native.Mathlib.Omega.{arith}
use borrow.Author.Tests.{le-leb}
use Rattle.book.specs.declared.State.{State}
use Rattle.book.specs.declared.State.TheVariants.{Idle, AwaitSetup, Up, AwaitChange}
use Rattle.book.specs.declared.Side.{Side}
use Rattle.book.specs.declared.Side.TheVariants.{I, R}
use Rattle.book.specs.Book.{closed, opening, settling, settled, ignores}
use Rattle.book.specs.States.{closed_state, opened_state, settled_side, holds_at, ignores_at}
use Rattle.media.specs.Stream.{Stream}
use Rattle.media.specs.Meaning.{spans_of, all_in, stream_inside}
use Rattle.configuration.specs.declared.Config.{Config}
use Rattle.bearer.specs.declared.Request as ours
use Rattle.bearer.specs.declared.Bearer as held
use Rattle.bearer.specs.Bearer.{Bearer}
use Rattle.bearer.specs.Meaning.{request_by, bearer_by, request_inside, bearer_inside}
use Rattle.endpoint.specs.declared.Endpoint.{Endpoint}
use Rattle.endpoint.specs.Step.{book_by, book_of, Inside, blank_stream, new_endpoint}
use Rattle.endpoint.specs.Private.{Same}

-- ---- the book's functions, read on the state and the side
closed_by : (st : State) (s : Side) (q : Stream) (b : Bearer) → book_by (closed_state st) s q b ≡ closed (book_by st s q b)
closed_by Idle s q b = refl
closed_by AwaitSetup s q b = refl
closed_by Up s q b = refl
closed_by AwaitChange s q b = refl

opened_by : (st : State) (s : Side) (p q : Stream) (b : Bearer) → book_by (opened_state st) s q b ≡ opening q (book_by st s p b)
opened_by Idle s p q b = refl
opened_by AwaitSetup s p q b = refl
opened_by Up s p q b = refl
opened_by AwaitChange s p q b = refl

settled_by : (st : State) (s : Side) (q : Stream) (a b : Bearer) → book_by Up (settled_side st s) q b ≡ settling b (book_by st s q a)
settled_by Idle s q a b = refl
settled_by AwaitSetup s q a b = refl
settled_by Up s q a b = refl
settled_by AwaitChange s q a b = refl

pub held_by : (st : State) (s : Side) (q : Stream) (b : Bearer) → cond (holds_at st) (some b) none ≡ settled (book_by st s q b)
held_by Idle s q b = refl
held_by AwaitSetup s q b = refl
held_by Up s q b = refl
held_by AwaitChange s q b = refl

pub ignores_by : (st : State) (s : Side) (q : Stream) (b : Bearer) → ignores_at st s ≡ ignores (book_by st s q b)
ignores_by Idle s q b = refl
ignores_by AwaitSetup s q b = refl
ignores_by Up s q b = refl
ignores_by AwaitChange I q b = refl
ignores_by AwaitChange R q b = refl

module _ (self : Endpoint) where
  -- ---- where each move leaves the endpoint
  pub same_closed : (s : State) → s ≡ closed_state self.state
      → Same self (record { config = self.config; state = s; side = self.side; request = self.request; bearer = self.bearer }) (closed (book_of self))
  same_closed s p =
      record {
        config = refl;
        book = ap (λ (t : State). book_by t self.side (request_by self.request) (bearer_by self.bearer)) p ∙ closed_by self.state self.side (request_by self.request) (bearer_by self.bearer);
        inside = λ i. record { request = i.request; bearer = i.bearer };
      }

  pub same_opening : (q : ours.Request) (s : State) → request_inside q ≡ true → s ≡ opened_state self.state
      → Same self (record { config = self.config; state = s; side = self.side; request = q; bearer = self.bearer }) (opening (request_by q) (book_of self))
  same_opening q s k p =
      record {
        config = refl;
        book = ap (λ (t : State). book_by t self.side (request_by q) (bearer_by self.bearer)) p ∙ opened_by self.state self.side (request_by self.request) (request_by q) (bearer_by self.bearer);
        inside = λ i. record { request = k; bearer = i.bearer };
      }

  pub same_settling : (b : held.Bearer) (s : Side) → bearer_inside b ≡ true → s ≡ settled_side self.state self.side
      → Same self (record { config = self.config; state = Up; side = s; request = self.request; bearer = b }) (settling (bearer_by b) (book_of self))
  same_settling b s k p =
      record {
        config = refl;
        book = ap (λ (t : Side). book_by Up t (request_by self.request) (bearer_by b)) p ∙ settled_by self.state self.side (request_by self.request) (bearer_by self.bearer) (bearer_by b);
        inside = λ i. record { request = i.request; bearer = k };
      }

-- ---- a fresh endpoint
blank_inside : (m : List ℕ) → stream_inside m blank_stream ≡ true
unfolding spans_of all_in stream_inside
blank_inside m = rw (le-leb 0 (length m) (omega arith))

-- its texts are empty, and lie inside any array
pub fresh_inside : (c : Config) → Inside (new_endpoint c)
fresh_inside c = record { request = blank_inside _; bearer = blank_inside _ }
