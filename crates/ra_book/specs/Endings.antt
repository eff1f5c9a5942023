-- How the request of a client ends, by a leave or by a cancel, in words for both. No public contract speaks of it.
use Rattle.std.specs.Prelude.{◌≡◌, ◌↔◌, Bool, true, false, Result, Err, IsErrOf, IsOkUnless, IsSome}
use Rattle.ra_node.specs.declared.outcome.Outcome.{Outcome}
use Rattle.ra_node.specs.Node.{NodeState}
use Rattle.ra_node.specs.Events.{NodeEvent}
use Rattle.ra_book.specs.declared.book.endings.Ending.{Ending}
use Rattle.ra_book.specs.declared.book.endings.Ending.TheVariants.{Leave, Cancel}
use Rattle.ra_book.specs.declared.book.event.BookKind.{BookKind}
use Rattle.ra_book.specs.declared.book.event.BookKind.TheVariants as kinds
use Rattle.ra_book.specs.declared.book.event_effect.Posted.{Posted}
use Rattle.ra_book.specs.declared.error.BookError.{BookError}
use Rattle.ra_book.specs.declared.error.BookError.TheVariants.{Failed, NotHeld, NotWaiting, ClockFull, Memory}
use Rattle.ra_book.specs.Book.{BookState, HasClock, Runs}
use Rattle.ra_book.specs.EventChecks.{MayTake}
use Rattle.ra_book.specs.History.{node_event}

-- the event that ends it
abbrev pub kind_of : Ending → BookKind
kind_of (Leave client name) = kinds.Leave client name
kind_of (Cancel client name) = kinds.Cancel client name

-- how the ending is refused if the client has no such request
abbrev pub refusal_of : Ending → BookError
refusal_of (Leave client name) = NotHeld
refusal_of (Cancel client name) = NotWaiting

-- an ending is answered as `Book::leave` and `Book::cancel` say
pub record AnswersEnding {T : Type 0} (book : BookState) (ending : Ending) (answer : Result T BookError) : Type 0 where
  pub failed : IsErrOf answer Failed ↔ IsSome book.fault
  pub no_request : IsErrOf answer (refusal_of ending) ↔ Runs book (λ node. MayTake node (kind_of ending) → ⊥)
  pub clock_full : IsErrOf answer ClockFull
      ↔ Runs book (λ node. MayTake node (kind_of ending) × (HasClock book (kind_of ending) → ⊥))
  pub allowed : IsOkUnless answer Memory
      ↔ Runs book (λ node. MayTake node (kind_of ending) × HasClock book (kind_of ending))

-- an ending is refused for this cause
abbrev pub RefusesEnding : BookState → Ending → BookError → Type 0
RefusesEnding book ending refused = AnswersEnding {T = Posted} book ending (Err refused)

-- Whether it ended the request at a node, and what it did: it sent and marked what the outcome has; or the client has
-- no such request, and all is as before.
abbrev pub EndsAt : Ending → NodeState → Outcome → Bool → NodeState → Outcome → Type 0
EndsAt ending old lent true new outcome = MayTake old (kind_of ending)
    × NodeEvent old (node_event (kind_of ending)) outcome.sends.items outcome.marks.items new
EndsAt ending old lent false new outcome = (MayTake old (kind_of ending) → ⊥) × (new ≡ old) × (outcome ≡ lent)
