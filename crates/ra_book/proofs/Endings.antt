-- What a book answers to the end of a request, in words of the node that is kept.
use Rattle.std.proofs.Common.{◌≡◌, ◌≢◌, ◌↔◌, ℕ, ◌+◌, ◌*◌, ◌≤◌, None, List, Result, Ok, Err, refl, sym, ap, ◌∙◌, inl, inr}
use Rattle.std.specs.Prelude.{IfErr, IsErrAnd, IsErrOf, IsSome, MatchResult}
use Rattle.ra_stamp.specs.declared.entry.Entry.{Entry}
use Rattle.ra_stamp.specs.declared.entry.Mark.{Mark}
use Rattle.ra_stamp.specs.declared.message.Message.{Message}
use Rattle.ra_node.specs.Node.{NodeState, clients_count, resource_at}
use Rattle.ra_node.specs.Events.{NodeEvent}
use Rattle.ra_node.specs.Resource.{Holds}
use Rattle.ra_node.proofs.Counts.{leave_counts, holder_counts, cancel_counts, kept_waiting_counts}
use Rattle.ra_book.specs.declared.book.endings.Ending.{Ending}
use Rattle.ra_book.specs.declared.book.endings.Ending.TheVariants.{Leave, Cancel}
use Rattle.ra_book.specs.declared.book.event.BookKind.{BookKind}
use Rattle.ra_book.specs.declared.book.event.BookKind.TheVariants as kinds
use Rattle.ra_book.specs.declared.error.BookError.{BookError}
use Rattle.ra_book.specs.declared.error.BookError.TheVariants.{Failed, ClockFull, Memory}
use Rattle.ra_book.specs.Endings.{kind_of, refusal_of, AnswersEnding, RefusesEnding}
use Rattle.ra_book.specs.EventChecks.{MayTake, NodeRefuses, CanHappen, IsRefusedAfter}
use Rattle.ra_book.specs.History.{node_event, clock_of}
use Rattle.ra_book.specs.Book.{BookState, whole_events, HasClock, Runs}
use Rattle.ra_book.specs.Keeping.{IsForThisBook, sends_by}
use Rattle.ra_book.proofs.Running.{has_fault, has_next, passed, passed_allowed}

-- ---- Each of the two

-- the client's own refusal is not one of those for all
refusal_apart : (ending : Ending) → (refusal_of ending ≢ Failed) × (refusal_of ending ≢ ClockFull) × (refusal_of ending ≢ Memory)
refusal_apart (Leave client name) = (λ e. absurd (cc), λ e. absurd (cc), λ e. absurd (cc))
refusal_apart (Cancel client name) = (λ e. absurd (cc), λ e. absurd (cc), λ e. absurd (cc))

-- a node that does not take it has no such request
node_refuses : (ending : Ending) (node : NodeState) (why : BookError) → NodeRefuses node (kind_of ending) why → (why ≡ refusal_of ending) × (MayTake node (kind_of ending) → ⊥)
node_refuses (Leave client name) node why refused = (refused.0, λ held. refused.1 held.0 held.1)
node_refuses (Cancel client name) node why refused = refused

pub of_any_book : (ending : Ending) (book : BookState) → IsForThisBook book (kind_of ending)
of_any_book (Leave client name) book = tt
of_any_book (Cancel client name) book = tt

pub most_sends : (ending : Ending) (nodes : ℕ) → sends_by nodes (kind_of ending) ≡ 2 * nodes
most_sends (Leave client name) nodes = refl
most_sends (Cancel client name) nodes = refl

-- there is one client less
pub ending_counts : (ending : Ending) (old new : NodeState) (sends : List Message) (marks : List Mark) → NodeEvent old (node_event (kind_of ending)) sends marks new
    → clients_count new + 1 ≡ clients_count old
ending_counts (Leave client name) old new sends marks event = leave_counts old new client name sends marks event
ending_counts (Cancel client name) old new sends marks event = cancel_counts old new client name sends marks event

-- there is a client with a request
pub request_counts : (ending : Ending) (node : NodeState) → MayTake node (kind_of ending) → 1 ≤ clients_count node
request_counts (Leave client name) node held = holder_counts node client name held.0 held.1
request_counts (Cancel client name) node kept = kept_waiting_counts node client name kept

-- ---- The answers

error_is : {T : Type 0} (e f : BookError) → IsErrOf {T = T} (Err e) f → e ≡ f
error_is e f is = cc

-- it is not refused for lack of memory
pub no_memory_refused : {T : Type 0} (ending : Ending) (x : BookError) → x ≡ refusal_of ending → IsErrOf {T = T} (Err x) Memory → ⊥
no_memory_refused {T} ending x h is = (refusal_apart ending).2 (sym h ∙ error_is {T = T} x Memory is)

module _ (book : BookState) (ending : Ending) where
  abbrev kind : BookKind
  kind = kind_of ending

  pub ending_failed : {T : Type 0} → IsSome book.fault → AnswersEnding {T = T} book ending (Err Failed)
  ending_failed {T} some = record {
    failed = (λ _. some, λ _. refl);
    no_request = (
      λ is. absurd ((refusal_apart ending).0 (sym (error_is {T = T} Failed (refusal_of ending) is))),
      λ runs. absurd (has_fault book.fault some runs.no_fault),
    );
    clock_full = (λ is. absurd (cc), λ runs. absurd (has_fault book.fault some runs.no_fault));
    allowed = (λ is. absurd (cc), λ runs. absurd (has_fault book.fault some runs.no_fault));
  }

  module _ (node : NodeState) (none : book.fault ≡ None) (at : (P : NodeState → Type 0) → Runs book P ↔ ((book.fault ≡ None) × P node)) where
    -- the client has no such request
    pub ending_refused : {T : Type 0} → (MayTake node kind → ⊥) → (x : BookError) → x ≡ refusal_of ending → AnswersEnding {T = T} book ending (Err x)
    ending_refused {T} no_request x h = record {
      failed = (λ is. absurd ((refusal_apart ending).0 (sym h ∙ error_is {T = T} x Failed is)), λ some. absurd (has_fault book.fault some none));
      no_request = (λ _. (at _).1 (none, no_request), λ _. ap Err h);
      clock_full = (λ is. absurd ((refusal_apart ending).1 (sym h ∙ error_is {T = T} x ClockFull is)), λ runs. absurd (no_request ((at _).0 runs).1.0));
      allowed = (λ is. absurd ((refusal_apart ending).2 (sym h ∙ is)), λ runs. absurd (no_request ((at _).0 runs).1.0));
    }

    -- it has one, and no clock is left
    ending_full : {T : Type 0} → MayTake node kind → (HasClock book kind → ⊥) → (x : BookError) → x ≡ ClockFull → AnswersEnding {T = T} book ending (Err x)
    ending_full {T} may full x h = record {
      failed = (λ is. absurd (cc), λ some. absurd (has_fault book.fault some none));
      no_request = (
        λ is. absurd ((refusal_apart ending).1 (sym (error_is {T = T} x (refusal_of ending) is) ∙ h)),
        λ runs. absurd (((at _).0 runs).1 may),
      );
      clock_full = (λ _. (at _).1 (none, (may, full)), λ _. ap Err h);
      allowed = (λ is. absurd (cc), λ runs. absurd (full ((at _).0 runs).1.1));
    }

    -- it has one, and a clock is left
    pub ending_allowed : {T : Type 0} (v : T) → MayTake node kind → HasClock book kind → AnswersEnding book ending (Ok v)
    ending_allowed v may has = record {
      failed = (λ is. absurd (cc), λ some. absurd (has_fault book.fault some none));
      no_request = (λ is. absurd (cc), λ runs. absurd (((at _).0 runs).1 may));
      clock_full = (λ is. absurd (cc), λ runs. absurd (((at _).0 runs).1.1 has));
      allowed = (λ _. (at _).1 (none, (may, has)), λ _. tt);
    }

    -- the check of it
    pub ending_checked : (clock : ℕ) → clock ≡ clock_of (whole_events book) → (r : Result ℕ BookError) → IfErr r (λ e. e ≢ Memory)
        → MatchResult r (CanHappen node clock kind) (IsRefusedAfter node clock kind) → IfErr r (RefusesEnding book ending)
    ending_checked clock is (Ok next) other can = tt
    ending_checked clock is (Err e) other refused = by_cause e other refused
      where
        by_cause : (x : BookError) → x ≢ Memory → IsRefusedAfter node clock kind x → RefusesEnding book ending x
        by_cause x other (inl refuses) = let no_request = node_refuses ending node x refuses in ending_refused no_request.1 x no_request.0
        by_cause x other (inr (inl full)) = ending_full full.1 (has_next book clock kind is (Err ClockFull) (refl, full.2)).1 x full.0
        by_cause x other (inr (inr memory)) = absurd (other memory.0)

  pub ending_passed : {T S : Type 0} (e : BookError) → AnswersEnding {T = T} book ending (Err e)
      → (r : Result S BookError) → IsErrAnd r (λ x. x ≡ e) → AnswersEnding book ending r
  ending_passed {T} {S} e answers (Ok v) h = absurd h
  ending_passed {T} {S} e answers (Err x) h = record {
    failed = passed x e Failed h answers.failed;
    no_request = passed x e (refusal_of ending) h answers.no_request;
    clock_full = passed x e ClockFull h answers.clock_full;
    allowed = passed_allowed T S x e Memory h answers.allowed;
  }

-- that the client holds the name by no request, in both ways of saying it
pub nobody_holds : (book : BookState) (client : ℕ) (name : List ℕ)
    → Runs book (λ node. MayTake node (kinds.Leave client name) → ⊥) ↔ Runs book (λ node. (entry : Entry) → Holds (resource_at node name) client entry → ⊥)
nobody_holds book client name = (
  λ runs. record { no_fault = runs.no_fault; node = runs.node; leads = runs.leads; holds = λ entry holds. runs.holds (entry, holds) },
  λ runs. record { no_fault = runs.no_fault; node = runs.node; leads = runs.leads; holds = λ held. runs.holds held.0 held.1 },
)
