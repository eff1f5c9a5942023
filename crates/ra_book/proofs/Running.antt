-- What a book answers to an event, in words of the node that is kept, and how the answer is passed on.
use Rattle.std.proofs.Common.{◌≡◌, ◌≢◌, ◌↔◌, ℕ, ◌^◌, ◌<◌, ◌≤◌, false, true, Option, Some, None, List, [], Result, Ok, Err, refl, sym, ap, ◌∙◌, subst, inl, inr, arith}
use Rattle.std.specs.Prelude.{IfErr, IfOk, IfSome, OnErr, IsErrAnd, IsErrOf, IsOkUnless, IsSome, is_some, MatchResult}
use Rattle.std.specs.Result.{result_ok}
use Rattle.ra_stamp.specs.declared.mode.Mode.{Mode}
use Rattle.ra_automaton.specs.Steps.{greatest_number}
use Rattle.ra_node.specs.declared.error.AskError.{AskError}
use Rattle.ra_node.specs.declared.error.AskError.TheVariants as ask
use Rattle.ra_node.specs.Resource.{IsBusy}
use Rattle.ra_node.specs.Turns.{MayAsk}
use Rattle.ra_node.specs.Node.{NodeState, resource_at}
use Rattle.ra_book.specs.declared.error.BookError.{BookError}
use Rattle.ra_book.specs.declared.error.BookError.TheVariants.{Failed, Busy, Exhausted, ClockFull, Memory}
use Rattle.ra_book.specs.declared.book.event.BookKind.{BookKind}
use Rattle.ra_book.specs.declared.book.event.BookKind.TheVariants.{Ask}
use Rattle.ra_book.specs.declared.book.stop.Stop.{Stop}
use Rattle.ra_book.specs.Refused.{refusal_of_ask}
use Rattle.ra_book.specs.EventChecks.{CanHappen, IsRefusedAfter}
use Rattle.ra_book.specs.History.{clock_after, clock_of}
use Rattle.ra_book.specs.Book.{BookState, whole_events, LeadsTo, HasHistory, HasClock, Runs}
use Rattle.ra_book.specs.Keeping.{Keeps, IsForThisBook, ComesNext, HasNextClock, IsChecked, AnswersAsk, RefusesAsk}

-- a book leads to one node, so what is said of that node is said of the one that is kept
pub runs_is :
    ((book : BookState) (a b : NodeState) → Keeps book a → LeadsTo book b → b ≡ a)
    → (now book : BookState) (node : NodeState) → Keeps book node → book ≡ now
    → (P : NodeState → Type 0) → Runs now P ↔ ((now.fault ≡ None) × P node)
runs_is law now book node keeps is P = (
  λ runs. (runs.no_fault, subst P (law book node runs.node keeps (subst (λ (b : BookState). LeadsTo b runs.node) (sym is) runs.leads)) runs.holds),
  λ h. record { no_fault = h.0; node = node; leads = subst (λ (b : BookState). LeadsTo b node) is keeps.leads; holds = h.1 },
)

-- the fault of the book as it is stored
pub some_fault : {book now : BookState} → book ≡ now → true ≡ is_some book.fault → IsSome now.fault
some_fault is some = sym (ap (λ (b : BookState). is_some b.fault) is) ∙ sym some

pub no_fault : {book now : BookState} → book ≡ now → false ≡ is_some book.fault → now.fault ≡ None
no_fault {book} {now} is none = sym (ap (λ (b : BookState). b.fault) is) ∙ none_is book.fault none
  where
    none_is : (fault : Option Stop) → false ≡ is_some fault → fault ≡ None
    none_is None e = refl
    none_is (Some stop) e = absurd (cc)

-- a fault is there or not
pub has_fault : (fault : Option Stop) → IsSome fault → fault ≡ None → ⊥
has_fault None is none = absurd (cc)
has_fault (Some stop) is none = absurd (cc)

-- ---- What comes next

-- the clock after this one, or the fact that there is none
abbrev pub ComesAt : ℕ → BookKind → Result ℕ BookError → Type 0
ComesAt clock kind r =
    MatchResult r (λ next. (next ≡ clock_after clock kind) × (next ≤ 2 ^ 62)) (λ e. (e ≡ ClockFull) × (2 ^ 62 < clock_after clock kind))

-- it exists exactly if a clock is left
abbrev pub HasNext : {T : Type 0} → BookState → BookKind → Result T BookError → Type 0
HasNext book kind r = MatchResult r (λ _. HasClock book kind) (λ e. (e ≡ ClockFull) × (HasClock book kind → ⊥))

pub has_next : (book : BookState) (clock : ℕ) (kind : BookKind) → clock ≡ clock_of (whole_events book) → (r : Result ℕ BookError) → ComesAt clock kind r → HasNext book kind r
has_next book clock kind is (Ok next) comes =
    let low : clock_after clock kind ≤ 2 ^ 62 = subst (λ (k : ℕ). k ≤ 2 ^ 62) comes.0 comes.1 in
    subst (λ (k : ℕ). clock_after k kind ≤ 2 ^ 62) is low
has_next book clock kind is (Err e) comes =
    let full = subst (λ (k : ℕ). 2 ^ 62 < clock_after k kind) is comes.1 in
    (comes.0, λ has. omega (arith, full, has))

-- the clock that comes next is the clock of an event of a book without a fault
pub next_is_ok : (book : BookState) (kind : BookKind) → book.fault ≡ None → (clock : ℕ) → clock ≡ clock_of (whole_events book)
    → (r : Result ℕ BookError) → ComesAt clock kind r → (found : Option ℕ) → found ≡ result_ok r → IfSome found (HasNextClock book kind)
next_is_ok book kind none clock is r comes found found_is = subst (λ (o : Option ℕ). IfSome o (HasNextClock book kind)) (sym found_is) (by_clock r comes)
  where
    by_clock : (r : Result ℕ BookError) → ComesAt clock kind r → IfSome (result_ok r) (HasNextClock book kind)
    by_clock (Ok next) comes = record {
      no_fault = none;
      clock_is = comes.0 ∙ ap (λ (k : ℕ). clock_after k kind) is;
      has_clock = has_next book clock kind is (Ok next) comes;
    }
    by_clock (Err e) comes = tt

pub comes_as : (book : BookState) (kind : BookKind) (clock : ℕ) → HasNextClock book kind clock → IsForThisBook book kind → ComesNext book clock kind
comes_as book kind clock is for_it = record { clock_is = is.clock_is; has_clock = is.has_clock; for_this_book = for_it }

-- ---- What a check answers

module _ {T : Type 0} (book : BookState) (Next : T → Type 0) (history : HasHistory book) where
  pub checked_failed : IsChecked book Next (Err Failed)
  checked_failed = record { history = history; next = tt; memory = λ m. absurd (cc) }

-- a clock is left
pub clock_checked : (book : BookState) (clock : ℕ) (kind : BookKind) → HasHistory book → book.fault ≡ None → clock ≡ clock_of (whole_events book)
    → (next : ℕ) → ComesAt clock kind (Ok next) → IsChecked book (HasNextClock book kind) (Ok next)
clock_checked book clock kind history none is next comes = record {
  history = history;
  next = record {
    no_fault = none;
    clock_is = comes.0 ∙ ap (λ (k : ℕ). clock_after k kind) is;
    has_clock = has_next book clock kind is (Ok next) comes;
  };
  memory = tt;
}

-- the check of an event at the node that is kept
pub event_checked : (book : BookState) (node : NodeState) (clock : ℕ) (kind : BookKind) → HasHistory book → book.fault ≡ None
    → clock ≡ clock_of (whole_events book) → (r : Result ℕ BookError) → IfErr r (λ e. e ≢ Memory)
    → MatchResult r (CanHappen node clock kind) (IsRefusedAfter node clock kind) → IsChecked book (HasNextClock book kind) r
event_checked book node clock kind history none is (Ok next) other can = clock_checked book clock kind history none is next (can.next_is, can.has_clock)
event_checked book node clock kind history none is (Err e) other refused = record { history = history; next = tt; memory = other }

-- ---- An answer that is passed on

-- a refusal returns nothing
pub not_ok : {T E : Type 0} (Q : E → Type 0) (P : T → Type 0) (r : Result T E) → IsErrAnd r Q → IfOk r P
not_ok Q P (Ok v) is = absurd is
not_ok Q P (Err e) is = tt

pub on_err : {T E : Type 0} (A : Type 0) (r : Result T E) → A → OnErr r A
on_err A (Ok v) h = tt
on_err A (Err e) h = h

-- by an error that is the same
pub passed : {T S Q E : Type 0} (x e cause : E) → x ≡ e → IsErrOf {T = T} (Err e) cause ↔ Q → IsErrOf {T = S} (Err x) cause ↔ Q
passed x e cause h is = (
  λ h'. is.0 (let same : e ≡ cause = cc in ap Err same),
  λ q. let same = is.1 q in cc,
)

pub passed_allowed : (T S : Type 0) {Q E : Type 0} (x e memory : E) → x ≡ e → IsOkUnless {T = T} (Err e) memory ↔ Q → IsOkUnless {T = S} (Err x) memory ↔ Q
passed_allowed T S x e memory h is = (λ m. is.0 (sym h ∙ m), λ q. h ∙ is.1 q)

-- by what is allowed, which stops only if memory runs out
pub other : {T S Q : Type 0} (v : T) (r : Result S BookError) (cause : BookError) → IsOkUnless r Memory → cause ≢ Memory → IsErrOf (Ok v) cause ↔ Q → IsErrOf r cause ↔ Q
other v (Ok w) cause h apart is = (λ e. absurd (cc), λ q. let no = is.1 q in absurd (cc))
other v (Err x) cause h apart is = (λ e. absurd (apart (let same : x ≡ cause = cc in sym same ∙ h)), λ q. let no = is.1 q in absurd (cc))

-- ---- An ask

module _ (book : BookState) (client : ℕ) (name : List ℕ) (mode : Mode) where
  pub ask_failed : {T : Type 0} → IsSome book.fault → AnswersAsk {T = T} book client name mode (Err Failed)
  ask_failed some = record {
    failed = (λ _. some, λ _. refl);
    busy = (λ is. absurd (cc), λ runs. absurd (has_fault book.fault some runs.no_fault));
    exhausted = (λ is. absurd (cc), λ runs. absurd (has_fault book.fault some runs.no_fault));
    clock_full = (λ is. absurd (cc), λ runs. absurd (has_fault book.fault some runs.no_fault));
    allowed = (λ is. absurd (cc), λ runs. absurd (has_fault book.fault some runs.no_fault));
  }

  pub ask_added : {T S : Type 0} (v : T) → AnswersAsk book client name mode (Ok v)
      → (r : Result S BookError) → IsOkUnless r Memory → AnswersAsk book client name mode r
  ask_added v answers r h = record {
    failed = other v r Failed h (λ is. absurd (cc)) answers.failed;
    busy = other v r Busy h (λ is. absurd (cc)) answers.busy;
    exhausted = other v r Exhausted h (λ is. absurd (cc)) answers.exhausted;
    clock_full = other v r ClockFull h (λ is. absurd (cc)) answers.clock_full;
    allowed = (λ _. answers.allowed.0 tt, λ _. h);
  }

  module _ (node : NodeState) (none : book.fault ≡ None) (at : (P : NodeState → Type 0) → Runs book P ↔ ((book.fault ≡ None) × P node)) where
    -- the client is busy
    ask_busy : {T : Type 0} → IsBusy (resource_at node name) client → (x : BookError) → x ≡ Busy → AnswersAsk {T = T} book client name mode (Err x)
    ask_busy is_busy x h = record {
      failed = (λ is. absurd (cc), λ some. absurd (has_fault book.fault some none));
      busy = (λ _. (at _).1 (none, is_busy), λ _. ap Err h);
      exhausted = (λ is. absurd (cc), λ runs. absurd (((at _).0 runs).1.0 is_busy));
      clock_full = (λ is. absurd (cc), λ runs. absurd (((at _).0 runs).1.0.not_busy is_busy));
      allowed = (λ is. absurd (cc), λ runs. absurd (((at _).0 runs).1.0.not_busy is_busy));
    }

    -- no number is left
    ask_exhausted : {T : Type 0} → (IsBusy (resource_at node name) client → ⊥) → (resource_at node name).state.highest ≡ greatest_number
        → (x : BookError) → x ≡ Exhausted → AnswersAsk {T = T} book client name mode (Err x)
    ask_exhausted not_busy highest x h = record {
      failed = (λ is. absurd (cc), λ some. absurd (has_fault book.fault some none));
      busy = (λ is. absurd (cc), λ runs. absurd (not_busy ((at _).0 runs).1));
      exhausted = (λ _. (at _).1 (none, (not_busy, highest)), λ _. ap Err h);
      clock_full = (λ is. absurd (cc), λ runs. absurd (omega (arith, highest, ((at _).0 runs).1.0.number_left)));
      allowed = (λ is. absurd (cc), λ runs. absurd (omega (arith, highest, ((at _).0 runs).1.0.number_left)));
    }

    -- the node allows it, and no clock is left
    ask_full : {T : Type 0} → MayAsk (resource_at node name) client → (HasClock book (Ask client name mode) → ⊥)
        → (x : BookError) → x ≡ ClockFull → AnswersAsk {T = T} book client name mode (Err x)
    ask_full may full x h = record {
      failed = (λ is. absurd (cc), λ some. absurd (has_fault book.fault some none));
      busy = (λ is. absurd (cc), λ runs. absurd (may.not_busy ((at _).0 runs).1));
      exhausted = (λ is. absurd (cc), λ runs. absurd (omega (arith, may.number_left, ((at _).0 runs).1.1)));
      clock_full = (λ _. (at _).1 (none, (may, full)), λ _. ap Err h);
      allowed = (λ is. absurd (cc), λ runs. absurd (full ((at _).0 runs).1.1));
    }

    -- the node allows it, and a clock is left
    pub ask_allowed : {T : Type 0} (v : T) → MayAsk (resource_at node name) client → HasClock book (Ask client name mode) → AnswersAsk book client name mode (Ok v)
    ask_allowed v may has = record {
      failed = (λ is. absurd (cc), λ some. absurd (has_fault book.fault some none));
      busy = (λ is. absurd (cc), λ runs. absurd (may.not_busy ((at _).0 runs).1));
      exhausted = (λ is. absurd (cc), λ runs. absurd (omega (arith, may.number_left, ((at _).0 runs).1.1)));
      clock_full = (λ is. absurd (cc), λ runs. absurd (((at _).0 runs).1.1 has));
      allowed = (λ _. (at _).1 (none, (may, has)), λ _. tt);
    }

    -- and memory runs out
    ask_memory : {T : Type 0} → MayAsk (resource_at node name) client → HasClock book (Ask client name mode) → (x : BookError) → x ≡ Memory
        → AnswersAsk {T = T} book client name mode (Err x)
    ask_memory may has x h = ask_added {T = List ℕ} [] (ask_allowed {T = List ℕ} [] may has) (Err x) h

    -- the node answers it, and a clock is left
    pub ask_answered : {S T : Type 0} (e : AskError) → IsErrOf {T = S} (Err e) ask.Busy ↔ IsBusy (resource_at node name) client
        → IsErrOf {T = S} (Err e) ask.Exhausted ↔ ((IsBusy (resource_at node name) client → ⊥) × ((resource_at node name).state.highest ≡ greatest_number))
        → IsOkUnless {T = S} (Err e) ask.Memory ↔ MayAsk (resource_at node name) client → HasClock book (Ask client name mode)
        → (r : Result T BookError) → IsErrAnd r (λ x. x ≡ refusal_of_ask e) → AnswersAsk book client name mode r
    ask_answered e busy exhausted allowed has (Ok v) h = absurd h
    ask_answered ask.Busy busy exhausted allowed has (Err x) h = ask_busy (busy.0 refl) x h
    ask_answered ask.Exhausted busy exhausted allowed has (Err x) h = let is = exhausted.0 refl in ask_exhausted is.0 is.1 x h
    ask_answered ask.Memory busy exhausted allowed has (Err x) h = ask_memory (allowed.0 refl) has x h

    -- it is refused, unless there is memory for it
    pub ask_refused : (clock : ℕ) → clock ≡ clock_of (whole_events book) → (why : BookError) → IsRefusedAfter node clock (Ask client name mode) why
        → RefusesAsk book client name mode why
    ask_refused clock is why (inl (inl busy)) = ask_busy busy.1 why busy.0
    ask_refused clock is why (inl (inr exhausted)) = ask_exhausted exhausted.1 exhausted.2 why exhausted.0
    ask_refused clock is why (inr (inl full)) =
        ask_full full.1 (has_next book clock (Ask client name mode) is (Err ClockFull) (refl, full.2)).1 why full.0
    ask_refused clock is why (inr (inr memory)) =
        ask_memory memory.1 (has_next book clock (Ask client name mode) is (Ok (clock_after clock (Ask client name mode))) (refl, memory.2)) why memory.0
