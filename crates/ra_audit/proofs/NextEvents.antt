-- Events that can be the next ones of a node, one after the other.
use Rattle.std.proofs.Common.{◌≡◌, ◌≢◌, ℕ, ◌+◌, ◌<◌, ◌≤◌, max, List, [], ◌∷◌, ◌++◌, Option, Some, IfSome, refl, sym, ap, ◌∙◌, subst, arith}
use Rattle.std.proofs.lemmas.List.{append_assoc}
use Rattle.std.specs.Prelude.{All, slice_get}
use Rattle.std.proofs.lemmas.List.Elements.{All-nil, All-cons, All-append, All-weaker}
use Rattle.ra_frame.specs.declared.frame.Frame.{Frame}
use Rattle.ra_book.specs.declared.book.event.BookKind.{BookKind}
use Rattle.ra_book.specs.declared.book.event.BookKind.TheVariants.{Ask, Leave, Cancel, Forget, Receive}
use Rattle.ra_book.specs.declared.book.event.BookEvent.{BookEvent}
use Rattle.ra_audit.specs.declared.auditor.node_progress.NodeProgress.TheInside.{Inside}
use Rattle.ra_book.specs.History.{clock_from, clock_of, clock_after}
use Rattle.ra_book.proofs.Clocks.{clock_append}
use Rattle.ra_audit.specs.Audit.{ProgressState, AreNextAt, IsNextAt, IsForNumber, taken_of}
use Rattle.ra_audit.specs.AuditKeeping.{progress_of, IsKeptProgress}

pub next_append : (node clock : ℕ) (xs ys : List BookEvent) → AreNextAt node clock xs → AreNextAt node (clock_from clock xs) ys → AreNextAt node clock (xs ++ ys)
next_append node clock [] ys first rest = rest
next_append node clock (x ∷ xs) ys first rest = (first.0, next_append node x.clock xs ys first.1 rest)

pub next_right : (node clock : ℕ) (xs ys : List BookEvent) → AreNextAt node clock (xs ++ ys) → AreNextAt node (clock_from clock xs) ys
next_right node clock [] ys all = all
next_right node clock (x ∷ xs) ys all = next_right node x.clock xs ys all.1

-- the first one after these is an event of the node
pub next_for : (node clock : ℕ) (xs : List BookEvent) (e : BookEvent) (ys : List BookEvent) → AreNextAt node clock (xs ++ e ∷ ys) → IsForNumber node e.kind
next_for node clock xs e ys all = (next_right node clock xs (e ∷ ys) all).0.for_node

-- ---- What is kept of a node

module _ (kept : Inside) (p : ProgressState) (view_is : progress_of kept ≡ p) (k : IsKeptProgress kept) where
  pub next_taken : AreNextAt p.node 0 (taken_of p)
  next_taken = subst (λ (p : ProgressState). AreNextAt p.node 0 (taken_of p)) view_is k.next

  pub latest_is : kept.latest ≡ clock_of (taken_of p)
  latest_is = k.latest ∙ ap (λ (p : ProgressState). clock_of (taken_of p)) view_is

  -- the first one that waits is an event of the node
  pub first_for : (r : Option BookEvent) → r ≡ slice_get p.waiting 0 → IfSome r (λ e. IsForNumber p.node e.kind)
  first_for r is = subst (λ (o : Option BookEvent). IfSome o (λ e. IsForNumber p.node e.kind)) (sym is) (of p.waiting next_taken)
    where
      of : (waiting : List BookEvent) → AreNextAt p.node 0 (p.settled ++ waiting) → IfSome (slice_get waiting 0) (λ e. IsForNumber p.node e.kind)
      of [] all = tt
      of (e ∷ waiting) all = next_for p.node 0 p.settled e waiting all

-- an event that waited is in the run, and nothing else changed
pub kept_put : (old new : Inside) (e : BookEvent) → IsKeptProgress old → old.waiting.items ≡ e ∷ new.waiting.items → new.settled.items ≡ old.settled.items ++ e ∷ []
    → new.node ≡ old.node → new.latest ≡ old.latest → new.clock ≡ e.clock → IsKeptProgress new
kept_put old new e k waiting settled node latest clock =
    let same : new.settled.items ++ new.waiting.items ≡ old.settled.items ++ old.waiting.items =
    ap (λ (xs : List BookEvent). xs ++ new.waiting.items) settled ∙ append_assoc old.settled.items (e ∷ []) new.waiting.items
    ∙ ap (λ (xs : List BookEvent). old.settled.items ++ xs) (sym waiting)
    in
    record {
      next = subst (λ (n : ℕ). AreNextAt n 0 (new.settled.items ++ new.waiting.items)) (sym node)
          (subst (λ (xs : List BookEvent). AreNextAt old.node 0 xs) (sym same) k.next);
      latest = latest ∙ k.latest ∙ ap clock_of (sym same);
      clock = clock ∙ sym (clock_append 0 old.settled.items (e ∷ [])) ∙ ap clock_of (sym settled);
    }

-- events were taken after those that were
pub kept_taken : (old new : Inside) (events : List BookEvent) → IsKeptProgress old → AreNextAt old.node old.latest events
    → new.waiting.items ≡ old.waiting.items ++ events → new.settled.items ≡ old.settled.items → new.node ≡ old.node
    → new.latest ≡ clock_from old.latest events → new.clock ≡ old.clock → IsKeptProgress new
kept_taken old new events k next waiting settled node latest clock =
    let all = old.settled.items ++ old.waiting.items in
    let same : new.settled.items ++ new.waiting.items ≡ all ++ events =
    (λ j. settled j ++ waiting j) ∙ sym (append_assoc old.settled.items old.waiting.items events)
    in
    record {
      next = subst (λ (n : ℕ). AreNextAt n 0 (new.settled.items ++ new.waiting.items)) (sym node)
          (subst (λ (xs : List BookEvent). AreNextAt old.node 0 xs) (sym same)
          (next_append old.node 0 all events k.next (subst (λ (c : ℕ). AreNextAt old.node c events) k.latest next)));
      latest = latest ∙ ap (λ (c : ℕ). clock_from c events) k.latest ∙ sym (clock_append 0 all events) ∙ ap clock_of (sym same);
      clock = clock ∙ k.clock ∙ ap clock_of (sym settled);
    }

-- ---- The order of the clocks

after_is_later : (clock : ℕ) (kind : BookKind) → clock < clock_after clock kind
after_is_later clock (Ask client name mode) = omega arith
after_is_later clock (Leave client name) = omega arith
after_is_later clock (Cancel client name) = omega arith
after_is_later clock Forget = omega arith
after_is_later clock (Receive frame) = omega arith

later : (node clock : ℕ) (e : BookEvent) → IsNextAt node clock e → clock < e.clock
later node clock e next = omega (arith, next.clock_is, after_is_later clock e.kind)

-- no event comes after the clock of the last one
pub up_to_last : (node clock : ℕ) (xs : List BookEvent) → AreNextAt node clock xs → All (λ e. e.clock ≤ clock_from clock xs) xs × (clock ≤ clock_from clock xs)
up_to_last node clock [] all = (All-nil (λ e. e.clock ≤ clock), omega arith)
up_to_last node clock (x ∷ xs) all =
    let rest = up_to_last node x.clock xs all.1 in
    let less : clock < x.clock = later node clock x all.0 in (
      All-cons (λ e. e.clock ≤ clock_from x.clock xs) x xs rest.1 rest.0,
      omega (arith, less, rest.1),
    )

-- all events come after this clock, and none before the first of them
pub from_first : (node clock : ℕ) (xs : List BookEvent) → AreNextAt node clock xs → All (λ e. clock < e.clock) xs
from_first node clock [] all = All-nil (λ e. clock < e.clock)
from_first node clock (x ∷ xs) all =
    let less : clock < x.clock = later node clock x all.0 in
    All-cons (λ e. clock < e.clock) x xs less
    (All-weaker (λ e. x.clock < e.clock) (λ e. clock < e.clock) (λ e h. omega (arith, h, less)) xs (from_first node x.clock xs all.1))

pub next_left : (node clock : ℕ) (xs ys : List BookEvent) → AreNextAt node clock (xs ++ ys) → AreNextAt node clock xs
next_left node clock [] ys all = tt
next_left node clock (x ∷ xs) ys all = (all.0, next_left node x.clock xs ys all.1)

-- a frame comes after its clock
pub after_frame : (node clock : ℕ) (e : BookEvent) (frame : Frame) → IsNextAt node clock e → e.kind ≡ Receive frame → frame.clock < e.clock
after_frame node clock e frame next came =
    let is : e.clock ≡ max clock frame.clock + 1 = next.clock_is ∙ ap (clock_after clock) came in omega (arith, is)

-- no event has a clock between the last settled event's and the first waiting event's
pub none_between : (node clock : ℕ) (settled waiting : List BookEvent) → AreNextAt node 0 (settled ++ waiting) → clock_of settled < clock
    → ((e : BookEvent) → slice_get waiting 0 ≡ Some e → clock < e.clock) → All (λ e. e.clock ≢ clock) (settled ++ waiting)
none_between node clock settled waiting all low high =
    All-append (λ e. e.clock ≢ clock) settled waiting
    (All-weaker (λ e. e.clock ≤ clock_of settled) (λ e. e.clock ≢ clock) (λ e h is. absurd (omega (arith, h, is, low))) settled (up_to_last node 0 settled (next_left node 0 settled waiting all)).0)
    (of waiting (next_right node 0 settled waiting all) high)
  where
    of : (waiting : List BookEvent) → AreNextAt node (clock_of settled) waiting → ((e : BookEvent) → slice_get waiting 0 ≡ Some e → clock < e.clock) → All (λ e. e.clock ≢ clock) waiting
    of [] next high = All-nil (λ e. e.clock ≢ clock)
    of (e ∷ waiting) next high =
        let above : clock < e.clock = high e refl in
        All-cons (λ e. e.clock ≢ clock) e waiting (λ is. absurd (omega (arith, above, is)))
        (All-weaker (λ x. e.clock < x.clock) (λ x. x.clock ≢ clock) (λ x h is. absurd (omega (arith, h, is, above))) waiting (from_first node e.clock waiting next.1))

-- no event that waits has a lesser clock than this if the first one has none
pub none_before_first : (node clock low : ℕ) (waiting : List BookEvent) → AreNextAt node clock waiting → ((e : BookEvent) → slice_get waiting 0 ≡ Some e → low ≤ e.clock)
    → All (λ e. low ≤ e.clock) waiting
none_before_first node clock low [] next first = All-nil (λ e. low ≤ e.clock)
none_before_first node clock low (e ∷ waiting) next first =
    let from : low ≤ e.clock = first e refl in
    All-cons (λ e. low ≤ e.clock) e waiting from
    (All-weaker (λ x. e.clock < x.clock) (λ x. low ≤ x.clock) (λ x h. omega (arith, h, from)) waiting (from_first node e.clock waiting next.1))
