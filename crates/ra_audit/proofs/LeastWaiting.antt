-- The event with the least clock of those that wait first at their nodes.
use Rattle.std.proofs.Common.{◌≡◌, ◌≢◌, ℕ, ◌+◌, ◌<◌, ◌≤◌, List, [], ◌∷◌, ◌++◌, map, length, get_or, Option, Some, None, MatchOption, IfSome, refl, sym, ap, ◌∙◌, subst, inl, inr, arith}
use Rattle.std.specs.Prelude.{All, slice_get}
use Rattle.std.specs.List.{Any, range_with_len}
use Rattle.std.proofs.lemmas.Bool.{cases_lt}
use Rattle.std.proofs.lemmas.List.{get_or_append_left, get_or-append-add, length-append, get_or_default}
use Rattle.std.proofs.lemmas.List.Elements.{All-nil, All-cons, All-append, All-weaker}
use Rattle.std.proofs.lemmas.Option.{none-some}
use Rattle.ra_stamp.specs.Message.{from_of}
use Rattle.ra_frame.specs.declared.frame.Frame.{Frame}
use Rattle.ra_audit.specs.declared.audit_error.AuditFault.{AuditFault}
use Rattle.ra_book.specs.declared.book.event.BookKind.{BookKind}
use Rattle.ra_book.specs.declared.book.event.BookKind.TheVariants.{Ask, Leave, Cancel, Forget, Receive}
use Rattle.ra_book.specs.declared.book.event.BookEvent.{BookEvent}
use Rattle.ra_book.specs.History.{clock_of}
use Rattle.ra_audit.specs.Audit.{ProgressState, AreNextAt, IsDue, IsReady, NoneIsReady, NoneWaits, IsNeverSent, IsLeastLeft, taken_of}
use Rattle.ra_audit.specs.AuditKeeping.{AreTaken, IsLeastOf, IsLeastWaiting}
use Rattle.ra_audit.proofs.AuditSteps.{due_at, number_of}
use Rattle.ra_audit.proofs.NextEvents.{after_frame, next_right, none_between, none_before_first}

any_left : (P : ProgressState → Type 0) (xs ys : List ProgressState) → Any P xs → Any P (xs ++ ys)
any_left P xs ys h = (h.0, h.1, omega (arith, h.2, length-append xs ys), get_or_append_left xs ys h.1 h.0 h.2 ∙ h.3, h.4)

any_right : (P : ProgressState → Type 0) (xs ys : List ProgressState) → Any P ys → Any P (xs ++ ys)
any_right P xs ys h = (length xs + h.0, h.1, omega (arith, h.2, length-append xs ys), get_or-append-add xs ys h.0 h.1 ∙ h.3, h.4)

-- no event waits first at a node if no event waits there
no_first : (P : BookEvent → Type 0) (p : ProgressState) → p.waiting ≡ [] → (event : BookEvent) → slice_get p.waiting 0 ≡ Some event → P event
no_first P p none event is = absurd (none-some event (sym (ap (λ (es : List BookEvent). slice_get es 0) none) ∙ is))

abbrev IsNotBefore : ℕ → ProgressState → Type 0
IsNotBefore clock p = (event : BookEvent) → slice_get p.waiting 0 ≡ Some event → clock ≤ event.clock

none_before : (clock : ℕ) (nodes : List ProgressState) → NoneWaits nodes → All (IsNotBefore clock) nodes
none_before clock nodes none = All-weaker (λ (p : ProgressState). p.waiting ≡ []) (IsNotBefore clock) (λ p e. no_first (λ event. clock ≤ event.clock) p e) nodes none

pub none_of_both : (a b : List ProgressState) → NoneWaits a → NoneWaits b → NoneWaits (a ++ b)
none_of_both a b = All-append (λ p. p.waiting ≡ []) a b

pub least_first : (a b : List ProgressState) (one : AuditFault) → IsLeastWaiting a one → NoneWaits b → IsLeastWaiting (a ++ b) one
least_first a b one is none = record {
  at_node = any_left (λ p. (p.node ≡ one.node) × (slice_get p.waiting 0 ≡ Some one.event)) a b is.at_node;
  least = All-append (IsNotBefore one.event.clock) a b is.least (none_before one.event.clock b none);
}

pub least_second : (a b : List ProgressState) (one : AuditFault) → NoneWaits a → IsLeastWaiting b one → IsLeastWaiting (a ++ b) one
least_second a b one none is = record {
  at_node = any_right (λ p. (p.node ≡ one.node) × (slice_get p.waiting 0 ≡ Some one.event)) a b is.at_node;
  least = All-append (IsNotBefore one.event.clock) a b (none_before one.event.clock a none) is.least;
}

not_before : (c d : ℕ) (nodes : List ProgressState) → c ≤ d → All (IsNotBefore d) nodes → All (IsNotBefore c) nodes
not_before c d nodes less = All-weaker (IsNotBefore d) (IsNotBefore c) (λ p h event is. let low : d ≤ event.clock = h event is in omega (arith, low, less)) nodes

pub least_other : (a b : List ProgressState) (one other : AuditFault) → IsLeastWaiting a one → IsLeastWaiting b other → other.event.clock ≤ one.event.clock → IsLeastWaiting (a ++ b) other
least_other a b one other is and less = record {
  at_node = any_right (λ p. (p.node ≡ other.node) × (slice_get p.waiting 0 ≡ Some other.event)) a b and.at_node;
  least = All-append (IsNotBefore other.event.clock) a b (not_before other.event.clock one.event.clock a less is.least) and.least;
}

pub none_here : (p : ProgressState) → slice_get p.waiting 0 ≡ None → NoneWaits (p ∷ [])
none_here p none = All-cons (λ (p : ProgressState). p.waiting ≡ []) p [] (of p.waiting none) (All-nil (λ (p : ProgressState). p.waiting ≡ []))
  where
    of : (waiting : List BookEvent) → slice_get waiting 0 ≡ None → waiting ≡ []
    of [] e = refl
    of (e ∷ waiting) is = absurd (none-some e (sym is))

-- ---- Of the least one the frame was never sent

module _ (nodes : List ProgressState) (n : ℕ) (numbers : map (λ p. p.node) nodes ≡ range_with_len 1 n) (none_ready : NoneIsReady nodes) (taken : AreTaken nodes) where
  -- the frame's sender has no event with its clock
  unsent : (fault : AuditFault) (frame : Frame) → frame.clock < fault.event.clock → (IsDue nodes (Receive frame) → ⊥)
      → All (λ p. (event : BookEvent) → slice_get p.waiting 0 ≡ Some event → fault.event.clock ≤ event.clock) nodes
      → All (λ p. p.node ≡ from_of frame.message → All (λ e. e.clock ≢ frame.clock) (taken_of p)) nodes
  unsent fault frame less not_due least k d low is =
      let p = get_or nodes k d in
      let number : k + 1 ≡ from_of frame.message = sym (number_of nodes n k d numbers low) ∙ is in
      let at : p ≡ get_or nodes k p = get_or_default nodes k d p low in
      let behind : clock_of p.settled < frame.clock =
      elim (cases_lt (clock_of p.settled) frame.clock) [
        | inl below ↦ below
        | inr above ↦ absurd (not_due (due_at nodes n k (from_of frame.message) frame.clock p numbers number low at (omega (arith, above))))
      ]
      in
      none_between p.node frame.clock p.settled p.waiting (taken k d low) behind
      (λ e first. let later : fault.event.clock ≤ e.clock = least k d low e first in omega (arith, later, less))

  pub never_sent : (fault : AuditFault) → IsLeastWaiting nodes fault → IsNeverSent nodes fault
  never_sent fault is_least =
      let at_node = is_least.at_node in
      let k = at_node.0 in
      let p = at_node.1 in
      let at : p ≡ get_or nodes k p = sym at_node.3 in
      let ready : IsDue nodes fault.event.kind → ⊥ = λ due. none_ready k p at_node.2 (subst (IsReady nodes) at (fault.event, at_node.4.1, due)) in
      let all : AreNextAt p.node 0 (taken_of p) = subst (λ (q : ProgressState). AreNextAt q.node 0 (taken_of q)) (sym at) (taken k p at_node.2) in
      of fault.event.kind refl ready (waits p.node (clock_of p.settled) p.waiting at_node.4.1 (next_right p.node 0 p.settled p.waiting all))
    where
      waits : (node clock : ℕ) (waiting : List BookEvent) → slice_get waiting 0 ≡ Some fault.event → AreNextAt node clock waiting → (frame : Frame) → fault.event.kind ≡ Receive frame → frame.clock < fault.event.clock
      waits node clock [] is next frame came = absurd (none-some fault.event is)
      waits node clock (e ∷ waiting) is next frame came =
          let same : e ≡ fault.event = cc in
          let less : frame.clock < e.clock = after_frame node clock e frame next.0 (ap (λ (x : BookEvent). x.kind) same ∙ came) in
          subst (λ (x : BookEvent). frame.clock < x.clock) same less

      of : (kind : BookKind) → fault.event.kind ≡ kind → (IsDue nodes kind → ⊥) → ((frame : Frame) → fault.event.kind ≡ Receive frame → frame.clock < fault.event.clock) → IsNeverSent nodes fault
      of (Ask client name mode) is not_due less = absurd (not_due tt)
      of (Leave client name) is not_due less = absurd (not_due tt)
      of (Cancel client name) is not_due less = absurd (not_due tt)
      of Forget is not_due less = absurd (not_due tt)
      of (Receive frame) is not_due less = record {
        at_node = is_least.at_node;
        frame = frame;
        came = is;
        no_event = unsent fault frame (less frame is) not_due is_least.least;
      }

pub match_least : (nodes : List ProgressState) (r : Option AuditFault) → IsLeastOf nodes r → ((fault : AuditFault) → IsLeastWaiting nodes fault → IsNeverSent nodes fault)
    → MatchOption r (NoneWaits nodes) (IsNeverSent nodes)
match_least nodes None is f = is
match_least nodes (Some fault) is f = f fault is

pub least_before_none : (a b : List ProgressState) (first : Option AuditFault) → IsLeastOf a first → NoneWaits b → IsLeastOf (a ++ b) first
least_before_none a b None is none = none_of_both a b is none
least_before_none a b (Some one) is none = least_first a b one is none

-- those that wait after the first one of their node have greater clocks
pub least_left : (nodes : List ProgressState) (r : Option AuditFault) → AreTaken nodes → IsLeastOf nodes r → IfSome r (IsLeastLeft nodes)
least_left nodes None taken is = tt
least_left nodes (Some fault) taken is = λ k d low.
    let p = get_or nodes k d in
    none_before_first p.node (clock_of p.settled) fault.event.clock p.waiting (next_right p.node 0 p.settled p.waiting (taken k d low)) (is.least k d low)
