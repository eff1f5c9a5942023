-- Lists of those that wait: one goes, and those that are let in or give up go, so that each of the others waits in the book.
use Rattle.std.proofs.Common.{◌≡◌, ◌≢◌, ◌⊎◌, ℕ, ◌+◌, ◌-◌, ◌<◌, true, false, List, [], ◌∷◌, ◌++◌, map, All, Any, length, get_or, Option, Some, None, Result, Ok, Err, OnErr, refl, sym, ap, ◌∙◌, subst, arith, inl, inr}
use Rattle.std.specs.Prelude.{OnOk, IfNone}
use Rattle.std.proofs.lemmas.Bool.{cases_eq, cases_order}
use Rattle.std.specs.List.{swap_remove}
use Rattle.std.proofs.lemmas.List.{get_or_default, length-take, length-set, map-append, append-nil}
use Rattle.std.proofs.lemmas.List.Elements.{All-contains, All-push}
use Rattle.std.proofs.lemmas.List.Quantifiers.{all_pairs_push, Any-push}
use Rattle.std.proofs.Math.Logic.{∥∥₁_elim}
use Rattle.ra_stamp.specs.declared.entry.Entry.{Entry}
use Rattle.ra_stamp.specs.declared.entry.Mark.{Mark}
use Rattle.ra_stamp.specs.declared.mode.Mode.{Mode}
use Rattle.ra_frame.specs.declared.frame.Frame.{Frame}
use Rattle.ra_node.specs.Resource.{IsKeptWaiting}
use Rattle.ra_node.specs.Node.{NodeState, resource_at}
use Rattle.ra_node.specs.Events.Event.{Cancel}
use Rattle.ra_book.specs.declared.book.event.BookKind.{BookKind}
use Rattle.ra_book.specs.declared.book.event.BookKind.TheVariants as kinds
use Rattle.ra_book.specs.declared.book.event.BookEvent.{BookEvent}
use Rattle.ra_book.specs.declared.book.sent.Sent.{Sent}
use Rattle.ra_book.specs.History.{IsHistory, node_event}
use Rattle.ra_book.specs.Book.{BookState, HasHistory, LeadsTo, Adds, Loses, whole_events, whole_sent, with_all_taken}
use Rattle.ra_book.proofs.Histories.{flagged}
use Rattle.ra_site.specs.declared.site.waiters.Waiter.{Waiter}
use Rattle.ra_site.specs.Waiting.{IsWaiterFor, WaitsNot, IsEachOnce, IsWithout, WaitOn, WaitsIn, entry_let_in}
use Rattle.ra_site.proofs.GivenGrants.{consistent_before, made_after}
use Rattle.ra_site.proofs.NodeLaws.{laws}
use Rattle.ra_site.proofs.StillWaiting.{IsLetIn, still_waiting, asker_waits, kept_is_busy}

-- ---- One goes

-- one element fewer is left
pub one_fewer : (old new : List Waiter) (place : ℕ) (gone : Waiter) → place < length old → new ≡ swap_remove old place gone → length new + 1 ≡ length old
one_fewer old new place gone within is =
    let count : length (swap_remove old place gone) + 1 ≡ length old = simp (length-take, length-set) (omega arith) in
    ap (λ (ws : List Waiter). length ws + 1) is ∙ count

-- of two places at most one has the client with the name
apart : (waiters : List Waiter) → IsEachOnce waiters → (i j : ℕ) (d : Waiter) → i < length waiters → j < length waiters → i ≢ j → IsWaiterFor (get_or waiters i d).client (get_or waiters i d).name (get_or waiters j d) → ⊥
apart waiters once i j d below within other is =
    elim (cases_order i j) [
      | inl same ↦ absurd (other same)
      | inr order ↦ elim order [
        | inl before ↦ once i j d before within is
        | inr after ↦ once j i d after below (sym is.0, sym is.1)
      ]
    ]

-- the last one takes the place of the one that goes
module _ (old new : List Waiter) (place : ℕ) (within : place < length old) (fewer : length new + 1 ≡ length old)
    (moved : (d : Waiter) → place + 1 < length old → get_or new place d ≡ get_or old (length old - 1) d)
    (stays : (k : ℕ) (d : Waiter) → k ≢ place → k + 1 < length old → get_or new k d ≡ get_or old k d)
    (once : IsEachOnce old)
  where
    -- where an element was
    abbrev Was : ℕ → ℕ → Type 0
    Was k j = ((k ≢ place) × (j ≡ k)) ⊎ ((k ≡ place) × (j + 1 ≡ length old))

    was : (k : ℕ) (d : Waiter) → k < length new → (j : ℕ) × (j < length old) × (j ≢ place) × (get_or new k d ≡ get_or old j d) × Was k j
    was k d lt =
        elim (cases_eq k place) [
          | inl same ↦ (
            length old - 1,
            omega (arith, within),
            λ is. absurd (omega (arith, lt, fewer, same, is)),
            ap (λ (i : ℕ). get_or new i d) same ∙ moved d (omega (arith, lt, fewer, same)),
            inr (same, omega (arith, within)),
          )
          | inr other ↦ (k, omega (arith, lt, fewer), other, stays k d other (omega (arith, lt, fewer)), inl (other, refl))
        ]

    -- where it is
    is_at : (j : ℕ) (d : Waiter) → j < length old → j ≢ place → (k : ℕ) × (k < length new) × (get_or new k d ≡ get_or old j d)
    is_at j d lt other =
        elim (cases_eq (j + 1) (length old)) [
          | inl last ↦
              let early : place < j = elim (cases_order place j) [ inl same ↦ absurd (other (sym same)) | inr order ↦ elim order [ inl before ↦ before | inr after ↦ absurd (omega (arith, after, last, within)) ] ] in
              let at_end : length old - 1 ≡ j = omega (arith, last) in
              (place, omega (arith, early, last, fewer), moved d (omega (arith, early, last)) ∙ ap (λ (i : ℕ). get_or old i d) at_end)
          | inr early ↦
              let below : j + 1 < length old = elim (cases_order (j + 1) (length old)) [ inl same ↦ absurd (early same) | inr order ↦ elim order [ inl before ↦ before | inr after ↦ absurd (omega (arith, after, lt)) ] ] in
              (j, omega (arith, below, fewer), stays j d other below)
        ]

    still_once : IsEachOnce new
    still_once = λ i j d before lt is.
        let a = was i d (omega (arith, before, lt)) in
        let b = was j d lt in
        apart old once a.0 b.0 d a.1 b.1 (λ same. differ i j a.0 b.0 before lt a.4 b.4 same)
        (subst (λ (x : Waiter). IsWaiterFor (get_or old a.0 d).client (get_or old a.0 d).name x) b.3 (subst (λ (x : Waiter). IsWaiterFor x.client x.name (get_or new j d)) a.3 is))
      where
        differ : (i j a b : ℕ) → i < j → j < length new → Was i a → Was j b → a ≡ b → ⊥
        differ i j a b before lt from to same =
            elim from [
              | inl x ↦ elim to [
                | inl y ↦ absurd (omega (arith, before, x.1, y.1, same))
                | inr y ↦ absurd (omega (arith, before, lt, fewer, x.1, y.1, same))
              ]
              | inr x ↦ elim to [
                | inl y ↦ absurd (omega (arith, lt, fewer, x.1, y.1, same))
                | inr y ↦ absurd (omega (arith, before, x.0, y.0))
              ]
            ]

    pub without : (client : ℕ) (name : List ℕ) → ((d : Waiter) → IsWaiterFor client name (get_or old place d)) → IsWithout client name old new
    without client name is_for = record {
      gone = λ k d lt is.
          let from = was k d lt in
          let here = is_for d in
          let there = subst (λ (x : Waiter). IsWaiterFor client name x) from.3 is in
          apart old once from.0 place d from.1 within from.2 (here.0 ∙ sym there.0, here.1 ∙ sym there.1);
      others = λ w other. (
        λ was_there.
            let elsewhere : was_there.0 ≢ place = λ same.
            other (subst (λ (x : Waiter). IsWaiterFor client name x) (ap (λ (i : ℕ). get_or old i w) (sym same) ∙ was_there.2) (is_for w)) in
            let now = is_at was_there.0 w was_there.1 elsewhere in
            (now.0, now.1, now.2 ∙ was_there.2),
        λ there. let from = was there.0 w there.1 in (from.0, from.1, sym from.3 ∙ there.2),
      );
      once = still_once;
    }

-- what holds of each holds of each that is left, and none of these is the one that went
without_all : (P : Waiter → Type 0) (client : ℕ) (name : List ℕ) (old new : List Waiter) → IsWithout client name old new → All P old → All (λ w. P w × (IsWaiterFor client name w → ⊥)) new
without_all P client name old new left all = λ k d within.
    let w = get_or new k d in
    let other = left.gone k d within in
    (All-contains P old w all ((left.others w other).1 (k, within, get_or_default new k w d within)), other)

-- ---- Those who are let in go

-- the client waits in the book, or this request of it was let in
abbrev GoesOn : BookState → Option Entry → Waiter → Type 0
GoesOn book let_in w = WaitsIn book w ⊎ ((e : Entry) × (let_in ≡ Some e) × IsWaiterFor e.client e.name w)

pub wait_on_all : (book : BookState) (let_in : Option Entry) (old new : List Waiter) → WaitOn let_in old new → All (GoesOn book let_in) old → All (WaitsIn book) new
wait_on_all book None old new same all =
    subst (λ (ws : List Waiter). All (WaitsIn book) ws) (sym same)
    (λ k d within. elim (all k d within) [ inl waits ↦ waits | inr granted ↦ absurd (nobody granted.0 granted.1) ])
  where
    nobody : (e : Entry) → ◌≡◌ {A = Option Entry} None (Some e) → ⊥
    nobody e is = cc
wait_on_all book (Some e) old new left all = λ k d within.
    let both = without_all (GoesOn book (Some e)) e.client e.name old new left all k d within in
    elim both.0 [
      | inl waits ↦ waits
      | inr granted ↦ absurd (both.1 (subst (λ (x : Entry). IsWaiterFor x.client x.name (get_or new k d)) (sym (one e granted.0 granted.1)) granted.2))
    ]
  where
    one : (a b : Entry) → ◌≡◌ {A = Option Entry} (Some a) (Some b) → a ≡ b
    one a b is = cc

pub wait_on_once : (let_in : Option Entry) (old new : List Waiter) → WaitOn let_in old new → IsEachOnce old → IsEachOnce new
wait_on_once None old new same once = subst IsEachOnce (sym same) once
wait_on_once (Some e) old new left once = left.once

-- ---- An event of a book

module _ (old : BookState) (kind : BookKind) (frames : List Frame) (marks : List Mark) (new : BookState) (adds : Adds old kind frames marks new) (history : HasHistory new) where
  -- the node to which the book leads is the one after the event
  same_after : (node : NodeState) → LeadsTo new node → adds.after ≡ node
  same_after node leads =
      let made = made_after laws old kind frames marks new adds history node leads in
      (laws.one_event adds.before adds.after node (node_event kind) adds.sends made.0 marks made.1 adds.event made.2).2

  kept_or_let_in : (w : Waiter) → IsKeptWaiting (resource_at adds.after w.name) w.client ⊎ IsLetIn w.name w.client marks → GoesOn new (entry_let_in marks) w
  kept_or_let_in w either =
      elim either [
        | inl kept ↦ inl (λ node leads. subst (λ (n : NodeState). IsKeptWaiting (resource_at n w.name) w.client) (same_after node leads) kept)
        | inr granted ↦ inr (granted.0, granted.1, (sym granted.2, sym granted.3))
      ]

  goes_on : (w : Waiter) → WaitsIn old w → (node_event kind ≡ Cancel w.client w.name → ⊥) → GoesOn new (entry_let_in marks) w
  goes_on w waits stays =
      kept_or_let_in w
      (still_waiting adds.before adds.after (node_event kind) adds.sends marks (consistent_before laws old kind frames marks new adds history) adds.event w.name w.client stays (waits adds.before adds.leads))

  -- each goes on, if it does not give up in the event
  pub go_on : (waiters : List Waiter) → All (λ w. WaitsIn old w × (node_event kind ≡ Cancel w.client w.name → ⊥)) waiters → All (GoesOn new (entry_let_in marks)) waiters
  go_on waiters all = λ k d within. let at = all k d within in goes_on (get_or waiters k d) at.0 at.1

-- an event in which nobody gives up
pub all_go_on : (old : BookState) (kind : BookKind) (frames : List Frame) (marks : List Mark) (new : BookState) → Adds old kind frames marks new → HasHistory new
    → ((client : ℕ) (name : List ℕ) → node_event kind ≡ Cancel client name → ⊥) → (waiters left : List Waiter) → WaitOn (entry_let_in marks) waiters left → All (WaitsIn old) waiters → All (WaitsIn new) left
all_go_on old kind frames marks new adds history nobody waiters left on all =
    wait_on_all new (entry_let_in marks) waiters left on
    (go_on old kind frames marks new adds history waiters (λ k d within. (all k d within, nobody (get_or waiters k d).client (get_or waiters k d).name)))

-- a cancel, whose client went before
pub others_go_on : (old : BookState) (client : ℕ) (name : List ℕ) (frames : List Frame) (marks : List Mark) (new : BookState) → Adds old (kinds.Cancel client name) frames marks new → HasHistory new
    → (waiters between left : List Waiter) → IsWithout client name waiters between → WaitOn (entry_let_in marks) between left → All (WaitsIn old) waiters → All (WaitsIn new) left
others_go_on old client name frames marks new adds history waiters between left gone on all =
    wait_on_all new (entry_let_in marks) between left on
    (go_on old (kinds.Cancel client name) frames marks new adds history between
    (λ k d within.
    let both = without_all (WaitsIn old) client name waiters between gone all k d within in
    (both.0, λ is. both.1 (same_client client (get_or between k d).client name (get_or between k d).name is))))
  where
    same_client : (a b : ℕ) (x y : List ℕ) → Cancel a x ≡ Cancel b y → (b ≡ a) × (y ≡ x)
    same_client a b x y is = (cc, cc)

-- ---- A client asks

module _ (old : BookState) (client : ℕ) (name : List ℕ) (mode : Mode) (frames : List Frame) (marks : List Mark) (new : BookState)
    (adds : Adds old (kinds.Ask client name mode) frames marks new)
  where
    -- it did not wait
    pub asker_is_new : (waiters : List Waiter) → ∥ All (WaitsIn old) waiters ∥₁ → WaitsNot client name waiters
    asker_is_new waiters waits = λ k d within is. ∥∥₁_elim waits (λ x y. absurd x) (λ all. busy (get_or waiters k d) is (all k d within))
      where
        busy : (w : Waiter) → IsWaiterFor client name w → WaitsIn old w → ⊥
        busy w is in_book =
            let kept = subst (λ (c : ℕ). IsKeptWaiting (resource_at adds.before name) c) is.0
            (subst (λ (n : List ℕ). IsKeptWaiting (resource_at adds.before n) w.client) is.1 (in_book adds.before adds.leads)) in
            adds.event.turn.0.not_busy (kept_is_busy (resource_at adds.before name) client kept)

    pub asked_once : (waiters : List Waiter) (w : Waiter) → IsWaiterFor client name w → ∥ All (WaitsIn old) waiters ∥₁ → IsEachOnce waiters → IsEachOnce (waiters ++ w ∷ [])
    asked_once waiters w is waits once =
        all_pairs_push (λ a b. IsWaiterFor a.client a.name b → ⊥) waiters w once
        (λ k d within same. asker_is_new waiters waits k d within (sym same.0 ∙ is.0, sym same.1 ∙ is.1))

    -- and waits then, or is let in
    pub asker_goes_on : HasHistory new → (w : Waiter) → IsWaiterFor client name w → (waiters left : List Waiter) → WaitOn (entry_let_in marks) (waiters ++ w ∷ []) left
        → All (WaitsIn old) waiters → All (WaitsIn new) left
    asker_goes_on history w is waiters left on all =
        wait_on_all new (entry_let_in marks) (waiters ++ w ∷ []) left on
        (All-push (GoesOn new (entry_let_in marks)) waiters w
        (go_on old (kinds.Ask client name mode) frames marks new adds history waiters (λ k d within. (all k d within, λ gives_up. no_cancel (get_or waiters k d).client (get_or waiters k d).name gives_up)))
        (kept_or_let_in old (kinds.Ask client name mode) frames marks new adds history w
        (subst (λ (c : ℕ). IsKeptWaiting (resource_at adds.after w.name) c ⊎ IsLetIn w.name c marks) (sym is.0)
        (subst (λ (n : List ℕ). IsKeptWaiting (resource_at adds.after n) client ⊎ IsLetIn n client marks) (sym is.1)
        (asker_waits adds.before adds.after client name mode adds.sends marks (consistent_before laws old (kinds.Ask client name mode) frames marks new adds history) adds.event)))))
      where
        no_cancel : (c : ℕ) (n : List ℕ) → node_event (kinds.Ask client name mode) ≡ Cancel c n → ⊥
        no_cancel c n is = cc

-- unless it is told, it is among those that wait
pub waits_if_untold : {T : Type 0} (told : Option T) (client : ℕ) (name : List ℕ) (waiters : List Waiter) (w : Waiter) (old new : List Waiter) → IsWaiterFor client name w → old ≡ waiters ++ w ∷ []
    → IfNone told (new ≡ old) → IfNone told (Any (IsWaiterFor client name) new)
waits_if_untold None client name waiters w old new is pushed same = subst (λ (ws : List Waiter). Any (IsWaiterFor client name) ws) (sym (same ∙ pushed)) (Any-push (IsWaiterFor client name) waiters w is)
waits_if_untold (Some t) client name waiters w old new is pushed same = tt

-- ---- What is no event

pub wait_as_before : (old new : BookState) → new ≡ old → (waiters : List Waiter) → ∥ All (WaitsIn old) waiters ∥₁ → ∥ All (WaitsIn new) waiters ∥₁
wait_as_before old new same waiters = subst (λ (b : BookState). ∥ All (WaitsIn b) waiters ∥₁) (sym same)

-- to forget lets nobody in, and nobody gives up in it
pub wait_through_forgetting : {T E : Type 0} (old new : BookState) (r : Result T E) → OnOk r (Adds old kinds.Forget [] [] new) → OnErr r (new ≡ old) → HasHistory new
    → (waiters : List Waiter) → All (WaitsIn old) waiters → All (WaitsIn new) waiters
wait_through_forgetting old new (Ok x) adds same history waiters = all_go_on old kinds.Forget [] [] new adds history (λ client name is. cc) waiters waiters refl
wait_through_forgetting old new (Err e) adds same history waiters = subst (λ (b : BookState). All (WaitsIn b) waiters) (sym same)

-- a book whose events lead to the same node as before keeps who waits
waits_as_before : (old new : BookState) → ((node : NodeState) → LeadsTo new node → LeadsTo old node) → (waiters : List Waiter) → All (WaitsIn old) waiters → All (WaitsIn new) waiters
waits_as_before old new same waiters all = λ k d within node leads. all k d within node (same node leads)

abbrev frame_in : Sent → Frame
frame_in s = s.frame

frames_stay : (old new : List Sent) (frame : Frame) → Loses old frame new → map frame_in new ≡ map frame_in old
frames_stay old new frame loses =
    ap (map frame_in) loses.new_is
    ∙ map-append frame_in loses.was.prefix (record { frame = frame; lost = true } ∷ loses.was.suffix)
    ∙ sym (map-append frame_in loses.was.prefix (record { frame = frame; lost = false } ∷ loses.was.suffix))
    ∙ sym (ap (map frame_in) loses.was.sent_is)

-- a flag does not matter
before_loss : (old new : BookState) (frame : Frame) → new ≡ record old { sent = new.sent } → Loses old.sent frame new.sent → (node : NodeState) → LeadsTo new node → LeadsTo old node
before_loss old new frame is loses node leads =
    let flagged_leads : LeadsTo (record old { sent = new.sent }) node = subst (λ (b : BookState). LeadsTo b node) is leads in
    flagged old.me old.nodes old.start (whole_events old) (old.taken.sent ++ new.sent) (whole_sent old) node flagged_leads
    (map-append frame_in old.taken.sent old.sent
    ∙ ap (λ (fs : List Frame). map frame_in old.taken.sent ++ fs) (sym (frames_stay old.sent new.sent frame loses))
    ∙ sym (map-append frame_in old.taken.sent new.sent))

pub wait_through_loss : {T E : Type 0} (old new : BookState) (frame : Frame) (r : Result T E) → OnOk r ((new ≡ record old { sent = new.sent }) × Loses old.sent frame new.sent) → OnErr r (new ≡ old)
    → (waiters : List Waiter) → All (WaitsIn old) waiters → All (WaitsIn new) waiters
wait_through_loss old new frame (Ok x) lost same waiters = waits_as_before old new (before_loss old new frame lost.0 lost.1) waiters
wait_through_loss old new frame (Err e) lost same waiters = subst (λ (b : BookState). All (WaitsIn b) waiters) (sym same)

-- nor does it matter what was taken
before_taking : (old : BookState) (node : NodeState) → LeadsTo (with_all_taken old) node → LeadsTo old node
before_taking old node leads =
    subst (λ (es : List BookEvent). IsHistory old.me old.nodes old.start es (whole_sent old) node) (append-nil (whole_events old))
    (subst (λ (ss : List Sent). IsHistory old.me old.nodes old.start (whole_events old ++ []) ss node) (append-nil (whole_sent old)) leads)

pub wait_through_taking : (old new : BookState) → new ≡ with_all_taken old → (waiters : List Waiter) → All (WaitsIn old) waiters → All (WaitsIn new) waiters
wait_through_taking old new is waiters all =
    subst (λ (b : BookState). All (WaitsIn b) waiters) (sym is) (waits_as_before old (with_all_taken old) (before_taking old) waiters all)
