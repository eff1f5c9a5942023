-- Frames that were never sent: which senders can't have sent them, and which frames may still be put into the run.
use Rattle.std.proofs.Common.{◌≡◌, ◌≢◌, ◌⊎◌, ℕ, ◌+◌, ◌-◌, ◌<◌, ◌≤◌, true, false, ltb, List, [], ◌∷◌, ◌++◌, map, length, get_or, Some, None, refl, sym, ap, ◌∙◌, subst, inl, inr, arith}
use Rattle.std.specs.Prelude.{All, slice_get}
use Rattle.std.specs.List.{range_with_len}
use Rattle.std.proofs.lemmas.Bool.{cases_lt, ltb-true, ltb-false}
use Rattle.std.proofs.lemmas.List.{append-nil, get_or_default}
use Rattle.std.proofs.lemmas.List.Elements.{All-weaker}
use Rattle.std.proofs.lemmas.Option.{none-some, same_Some}
use Rattle.ra_stamp.specs.Message.{from_of}
use Rattle.ra_frame.specs.declared.frame.Frame.{Frame}
use Rattle.ra_audit.specs.declared.audit_error.AuditFault.{AuditFault}
use Rattle.ra_book.specs.declared.book.event.BookKind.{BookKind}
use Rattle.ra_book.specs.declared.book.event.BookKind.TheVariants.{Receive}
use Rattle.ra_book.specs.declared.book.event.BookEvent.{BookEvent}
use Rattle.ra_book.specs.History.{clock_of, clock_from}
use Rattle.ra_audit.specs.Audit.{ProgressState, AreNextAt, IsDue, MayCome, MayComeFrom, MayBePut, IsUnsent, taken_of, clock_at}
use Rattle.ra_audit.specs.AuditKeeping.{HasNone, IsOfNone}
use Rattle.ra_audit.proofs.AuditSteps.{due_at, number_of}
use Rattle.ra_book.proofs.Clocks.{clock_append}
use Rattle.ra_audit.proofs.NextEvents.{next_right, none_between, up_to_last}

-- ---- Of the sender

-- the first event that waits is not after the last one
up_to_latest : (node : ℕ) (settled waiting : List BookEvent) (e : BookEvent) → AreNextAt node 0 (settled ++ waiting) → slice_get waiting 0 ≡ Some e
    → e.clock ≤ clock_of (settled ++ waiting)
up_to_latest node settled [] e all is = absurd (none-some e is)
up_to_latest node settled (x ∷ waiting) e all is =
    let rest : x.clock ≤ clock_from x.clock waiting = (up_to_last node x.clock waiting (next_right node 0 settled (x ∷ waiting) all).1).1 in
    let last : clock_of (settled ++ x ∷ waiting) ≡ clock_from x.clock waiting = clock_append 0 settled (x ∷ waiting) in
    subst (λ (y : BookEvent). y.clock ≤ clock_of (settled ++ x ∷ waiting)) (same_Some x e is) (omega (arith, rest, last))

-- if none waits, the last one is settled
pub all_settled : (settled waiting : List BookEvent) → None ≡ slice_get waiting 0 → clock_of (settled ++ waiting) ≡ clock_of settled
all_settled settled [] is = ap clock_of (append-nil settled)
all_settled settled (e ∷ waiting) is = absurd (none-some e is)

module _ (s : ProgressState) (clock : ℕ) (NoneComes : Type 0) (all : AreNextAt s.node 0 (taken_of s)) where
  -- all are before this clock
  pub none_so_far : clock_of (taken_of s) < clock → NoneComes → HasNone clock NoneComes s
  none_so_far low none = (
    All-weaker (λ e. e.clock ≤ clock_of (taken_of s)) (λ e. e.clock ≢ clock) (λ e h is. absurd (omega (arith, h, is, low))) (taken_of s)
        (up_to_last s.node 0 (taken_of s) all).0,
    inr none,
  )

  -- the settled ones are before it, and the first one that waits is after it
  pub none_at : (first : BookEvent) → Some first ≡ slice_get s.waiting 0 → clock_of s.settled < clock → clock < first.clock → HasNone clock NoneComes s
  none_at first is low above =
      let last : first.clock ≤ clock_of (taken_of s) = up_to_latest s.node s.settled s.waiting first all (sym is) in (
        none_between s.node clock s.settled s.waiting all low
            (λ e at. subst (λ (x : BookEvent). clock < x.clock) (same_Some first e (is ∙ at)) above),
        inl (omega (arith, above, last)),
      )

-- ---- The node with a number

of_number : (P : ProgressState → Type 0) (nodes : List ProgressState) (n place from : ℕ) (p : ProgressState) → map (λ p. p.node) nodes ≡ range_with_len 1 n
    → place + 1 ≡ from → place < length nodes → p ≡ get_or nodes place p → P p → All (λ s. s.node ≡ from → P s) nodes
of_number P nodes n place from p numbers number within at holds k d low is =
    let same : place ≡ k = omega (arith, number, is, number_of nodes n k d numbers low) in
    let here : p ≡ get_or nodes k d = at ∙ get_or_default nodes place p d within ∙ ap (λ (i : ℕ). get_or nodes i d) same in
    subst P here holds

of_no_number : (P : ProgressState → Type 0) (nodes : List ProgressState) (n place from : ℕ) → map (λ p. p.node) nodes ≡ range_with_len 1 n
    → place + 1 ≡ from → length nodes ≤ place → All (λ s. s.node ≡ from → P s) nodes
of_no_number P nodes n place from numbers number high k d low is = absurd (omega (arith, number, is, low, high, number_of nodes n k d numbers low))

-- ---- A frame whose sender is found

module _ (nodes : List ProgressState) (kind : BookKind) (frame : Frame) (n place : ℕ) (numbers : map (λ p. p.node) nodes ≡ range_with_len 1 n)
    (number : place + 1 ≡ from_of frame.message) (is : kind ≡ Receive frame) where
  pub may_come_of : (p : ProgressState) (IsNew : Type 0) → true ≡ ltb place (length nodes) → p ≡ get_or nodes place p
      → MayComeFrom frame.clock IsNew p → MayCome nodes IsNew kind
  may_come_of p IsNew low at may =
      subst (MayCome nodes IsNew) (sym is)
      (of_number (MayComeFrom frame.clock IsNew) nodes n place (from_of frame.message) p numbers number (ltb-true place (length nodes) (sym low)) at may)

  pub is_of_none : (p : ProgressState) (NoneComes : Type 0) → true ≡ ltb place (length nodes) → p ≡ get_or nodes place p
      → (clock_of p.settled < frame.clock → HasNone frame.clock NoneComes p) → (IsDue nodes kind → ⊥) → IsOfNone nodes NoneComes kind
  is_of_none p NoneComes low at none not_due =
      let within : place < length nodes = ltb-true place (length nodes) (sym low) in
      let behind : clock_of p.settled < frame.clock =
      elim (cases_lt (clock_of p.settled) frame.clock) [
        | inl below ↦ below
        | inr above ↦ absurd (not_due (subst (IsDue nodes) (sym is) (due_at nodes n place (from_of frame.message) frame.clock p numbers number within at (omega (arith, above)))))
      ]
      in
      (frame, is, of_number (HasNone frame.clock NoneComes) nodes n place (from_of frame.message) p numbers number within at (none behind))

  -- or is not found
  pub may_come_of_nobody : (IsNew : Type 0) → false ≡ ltb place (length nodes) → MayCome nodes IsNew kind
  may_come_of_nobody IsNew beyond =
      subst (MayCome nodes IsNew) (sym is)
      (of_no_number (MayComeFrom frame.clock IsNew) nodes n place (from_of frame.message) numbers number (ltb-false place (length nodes) (sym beyond)))

-- ---- The node at a place

module _ (clocks : List ℕ) (nodes : List ProgressState) (n place known : ℕ) (p : ProgressState) (numbers : map (λ p. p.node) nodes ≡ range_with_len 1 n)
    (within : place < length nodes) (at : p ≡ get_or nodes place p) (known_is : known ≡ get_or clocks place 0) where
  number : p.node ≡ place + 1
  number = ap (λ (x : ProgressState). x.node) at ∙ number_of nodes n place p numbers within

  -- the clock of a node with this number
  known_at : (node : ℕ) → node ≡ p.node → known ≡ clock_at clocks node
  known_at node same =
      let place_is : place ≡ node - 1 = omega (arith, same, number) in
      known_is ∙ ap (λ (i : ℕ). get_or clocks i 0) place_is

  pub may_be_put : ((event : BookEvent) → slice_get p.waiting 0 ≡ Some event → MayCome nodes (known < event.clock) event.kind) → MayBePut clocks nodes p
  may_be_put may event is = subst (λ (clock : ℕ). MayCome nodes (clock < event.clock) event.kind) (known_at p.node refl) (may event is)

  pub is_unsent : (fault : AuditFault) → fault.node ≡ p.node → slice_get p.waiting 0 ≡ Some fault.event → IsOfNone nodes (fault.event.clock ≤ known) fault.event.kind → IsUnsent clocks nodes fault
  is_unsent fault node is none = record {
    never_sent = record {
      at_node = (place, p, within, sym at, (sym node, is));
      frame = none.0;
      came = none.1;
      no_event = λ k d low same. (none.2 k d low same).0;
    };
    sure = λ k d low same.
        subst (λ (clock : ℕ). (none.0.clock < clock_of (taken_of (get_or nodes k d))) ⊎ (fault.event.clock ≤ clock)) (known_at fault.node node) (none.2 k d low same).1;
  }
