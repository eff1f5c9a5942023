-- A client that waits or is queued at a node is so after each event of the node, unless it gives up in it or is let in.
use Rattle.std.proofs.Common.{◌≡◌, ◌≢◌, ◌⊎◌, ℕ, zero, suc, ◌+◌, Bool, true, List, [], ◌∷◌, ◌++◌, Any, Option, Some, None, refl, sym, ap, ◌∙◌, subst, arith, inl, inr}
use Rattle.std.proofs.lemmas.List.Quantifiers.{Any-push}
use Rattle.ra_stamp.specs.declared.entry.Entry.{Entry}
use Rattle.ra_stamp.specs.declared.entry.Mark.{Mark}
use Rattle.ra_stamp.specs.declared.entry.Mark.TheVariants.{Left, Withdrawn}
use Rattle.ra_stamp.specs.declared.message.Message.{Message}
use Rattle.ra_stamp.specs.declared.message.Message.TheVariants.{Request, Reply}
use Rattle.ra_stamp.specs.declared.mode.Mode.{Mode}
use Rattle.ra_stamp.specs.Message.{name_of}
use Rattle.ra_automaton.specs.declared.phase.Phase.{Phase}
use Rattle.ra_automaton.specs.declared.phase.Phase.TheVariants.{Idle, Waiting, Inside}
use Rattle.ra_automaton.specs.State.{State}
use Rattle.ra_node.specs.declared.queued_client.Queued.{Queued}
use Rattle.ra_node.specs.Resource.{Resource, use_in, held_entry, waiting_entry, entry_of, IsQueued, IsKeptWaiting, IsBusy}
use Rattle.ra_node.specs.Turns.{request_marks, next_entry, EntersBy, AsksAtOnce, AskTurn, Leaves, Withdraws, EndsToNext, EndTurn, LeaveTurn, CancelTurn, ReceiveTurn}
use Rattle.ra_node.specs.Node.{NodeState, resource_at, IsConsistentNode}
use Rattle.ra_node.specs.Forgetting.{raised}
use Rattle.ra_node.specs.Events.{Event, NodeEvent, AskEvent}
use Rattle.ra_node.specs.Events.Event.{Ask, Leave, Cancel, Receive, Forget}
use Rattle.ra_node.proofs.Distinct.{busy_is}
use Rattle.ra_node.proofs.Lookups.{same_or_apart, resource_changed}
use Rattle.ra_node.proofs.EventLemmas.{other_resource}
use Rattle.ra_node.proofs.Updates.{receive_updates, updated_here}
use Rattle.ra_site.specs.Waiting.{entry_let_in}

-- ---- Some element of a list

module _ {X : Type 0} (P : X → Type 0) where
  any_here : (x : X) (xs : List X) → P x → Any P (x ∷ xs)
  any_here x xs p = (0, x, omega arith, refl, p)

  any_there : (x : X) (xs : List X) → Any P xs → Any P (x ∷ xs)
  any_there x xs (k, y, lt, is, p) = (suc k, y, omega (arith, lt), is, p)

  any_split : (x : X) (xs : List X) → Any P (x ∷ xs) → P x ⊎ Any P xs
  any_split x xs (zero, y, lt, is, p) = inl (subst P (sym is) p)
  any_split x xs (suc k, y, lt, is, p) = inr (k, y, omega (arith, lt), is, p)

  any_left : (xs ys : List X) → Any P xs → Any P (xs ++ ys)
  any_left [] ys (k, y, lt, is, p) = absurd (omega (arith, lt))
  any_left (x ∷ xs) ys any = elim (any_split x xs any) [ inl p ↦ any_here x (xs ++ ys) p | inr rest ↦ any_there x (xs ++ ys) (any_left xs ys rest) ]

  any_other : (before : List X) (gone : X) (after : List X) → (P gone → ⊥) → Any P (before ++ gone ∷ after) → Any P (before ++ after)
  any_other [] gone after other any = elim (any_split gone after any) [ inl p ↦ absurd (other p) | inr rest ↦ rest ]
  any_other (x ∷ before) gone after other any =
      elim (any_split x (before ++ gone ∷ after) any) [
        | inl p ↦ any_here x (before ++ after) p
        | inr rest ↦ any_there x (before ++ after) (any_other before gone after other rest)
      ]

-- ---- At one resource

-- the request of this client waits
abbrev WaitsNow : Resource → ℕ → Type 0
WaitsNow r client = (seq : ℕ) × (mode : Mode) × (r.state.phase ≡ Waiting seq mode) × (r.client ≡ Some client)

abbrev QueuedIn : List Queued → ℕ → Type 0
QueuedIn queue client = Any (λ q. q.client ≡ client) queue

-- the marks let in a request of this client for this name
abbrev pub IsLetIn : List ℕ → ℕ → List Mark → Type 0
IsLetIn name client marks = (e : Entry) × (entry_let_in marks ≡ Some e) × (e.client ≡ client) × (e.name ≡ name)

waits_as : (s : State) (phase : Phase) (o : Option ℕ) (client : ℕ) (entry : Entry) → waiting_entry (use_in s phase o) ≡ Some entry → entry.client ≡ client
    → (seq : ℕ) × (mode : Mode) × (phase ≡ Waiting seq mode) × (o ≡ Some client)
waits_as s phase None client entry requested is = absurd cc
waits_as s Idle (Some c) client entry requested is = absurd cc
waits_as s (Inside seq mode) (Some c) client entry requested is = absurd cc
waits_as s (Waiting seq mode) (Some c) client entry requested is =
    let same : entry_of s.me s.name seq c mode ≡ entry = cc in
    (seq, mode, refl, ap (λ (x : ℕ). Some x) (ap (λ (e : Entry). e.client) same ∙ is))

holds_as : (s : State) (phase : Phase) (o : Option ℕ) (entry : Entry) → held_entry (use_in s phase o) ≡ Some entry → (o ≡ Some entry.client) × (entry.name ≡ s.name)
holds_as s phase None entry granted = absurd cc
holds_as s Idle (Some c) entry granted = absurd cc
holds_as s (Waiting seq mode) (Some c) entry granted = absurd cc
holds_as s (Inside seq mode) (Some c) entry granted =
    let same : entry_of s.me s.name seq c mode ≡ entry = cc in
    (ap (λ (x : ℕ). Some x) (ap (λ (e : Entry). e.client) same), sym (ap (λ (e : Entry). e.name) same))

kept_cases : (r : Resource) (client : ℕ) → IsKeptWaiting r client → WaitsNow r client ⊎ IsQueued r client
kept_cases r client kept = elim kept [ inl w ↦ inl (waits_as r.state r.state.phase r.client client w.0 w.1.requested w.1.client_is) | inr queued ↦ inr queued ]

waits_now : (r : Resource) (seq : ℕ) (mode : Mode) (client : ℕ) → r.state.phase ≡ Waiting seq mode → r.client ≡ Some client → IsKeptWaiting r client
waits_now r seq mode client phase at =
    inl (
      entry_of r.state.me r.state.name seq client mode,
      record {
        requested = ap (λ (p : Phase). waiting_entry (use_in r.state p r.client)) phase ∙ ap (λ (o : Option ℕ). waiting_entry (use_in r.state (Waiting seq mode) o)) at;
        client_is = refl;
      },
    )

queued_now : (r : Resource) (queue : List Queued) (client : ℕ) → r.queue ≡ queue → QueuedIn queue client → IsKeptWaiting r client
queued_now r queue client is queued = inr (subst (λ (qs : List Queued). QueuedIn qs client) (sym is) queued)

pub kept_is_busy : (r : Resource) (client : ℕ) → IsKeptWaiting r client → IsBusy r client
kept_is_busy r client kept = (busy_is r client).1 (elim (kept_cases r client kept) [ inl now ↦ inl now.3 | inr queued ↦ inr queued ])

-- a resource whose phase, client and queue stay keeps who waits
still : (old new : Resource) (client : ℕ) → new.state.phase ≡ old.state.phase → new.client ≡ old.client → new.queue ≡ old.queue → IsKeptWaiting old client → IsKeptWaiting new client
still old new client phase at queue kept =
    elim (kept_cases old client kept) [
      | inl now ↦ waits_now new now.0 now.1 client (phase ∙ now.2) (at ∙ now.3)
      | inr queued ↦ queued_now new old.queue client queue queued
    ]

idle_waits_not : (phase : Phase) (seq : ℕ) (mode : Mode) → phase ≡ Idle → phase ≡ Waiting seq mode → ⊥
idle_waits_not phase seq mode idle waits = cc

inside_waits_not : (phase : Phase) (seq number : ℕ) (mode wanted : Mode) → phase ≡ Inside seq mode → phase ≡ Waiting number wanted → ⊥
inside_waits_not phase seq number mode wanted inside waits = cc

one_client : (o : Option ℕ) (a b : ℕ) → o ≡ Some a → o ≡ Some b → a ≡ b
one_client o a b is also = cc

-- ---- A client asks

-- one that asks at once waits, or is let in
asks_waits : (old new : Resource) (client : ℕ) (mode : Mode) (sends : List Message) (marks : List Mark) → AsksAtOnce old client mode sends marks new
    → IsKeptWaiting new client ⊎ IsLetIn old.state.name client marks
asks_waits old new client mode sends marks asks =
    elim asks.step.begins [
      | inl others ↦ inl (waits_now new (old.state.highest + 1) mode client (ap (λ (s : State). s.phase) others.new_is) asks.client_is)
      | inr alone ↦ inr (
        next_entry old client mode,
        ap entry_let_in (asks.marks_are ∙ ap (λ (b : Bool). request_marks b (next_entry old client mode)) alone.entered_is),
        refl,
        refl,
      )
    ]

ask_waits : (old new : Resource) (client : ℕ) (mode : Mode) (sends : List Message) (marks : List Mark) → AskTurn old client mode sends marks new
    → IsKeptWaiting new client ⊎ IsLetIn old.state.name client marks
ask_waits old new client mode sends marks turn =
    elim turn.1 [
      | inl asks ↦ asks_waits old new client mode sends marks asks
      | inr up ↦
          let last : Queued = record { client = client; mode = mode } in
          inl (queued_now new (old.queue ++ last ∷ []) client (ap (λ (r : Resource). r.queue) up.new_is) (Any-push (λ (q : Queued). q.client ≡ client) old.queue last refl))
    ]

-- the others go on waiting
ask_keeps : (old new : Resource) (client other : ℕ) (mode : Mode) (sends : List Message) (marks : List Mark) → AskTurn old client mode sends marks new → IsKeptWaiting old other → IsKeptWaiting new other
ask_keeps old new client other mode sends marks turn kept =
    elim turn.1 [
      | inl asks ↦ elim (kept_cases old other kept) [
        | inl now ↦ absurd (idle_waits_not old.state.phase now.0 now.1 asks.step.idle now.2)
        | inr queued ↦ queued_now new old.queue other asks.queue_is queued
      ]
      | inr up ↦ elim (kept_cases old other kept) [
        | inl now ↦ waits_now new now.0 now.1 other (ap (λ (r : Resource). r.state.phase) up.new_is ∙ now.2) (ap (λ (r : Resource). r.client) up.new_is ∙ now.3)
        | inr queued ↦
            let last : Queued = record { client = client; mode = mode } in
            queued_now new (old.queue ++ last ∷ []) other (ap (λ (r : Resource). r.queue) up.new_is) (any_left (λ (q : Queued). q.client ≡ other) old.queue (last ∷ []) queued)
      ]
    ]

-- ---- A request ends

module _ (Ends : Entry → List Message → Resource → Type 0) (mark : Entry → Mark) (old : Resource)
    (ended : (entry : Entry) (sends : List Message) (r : Resource) → Ends entry sends r → (r.queue ≡ old.queue) × (r.state.name ≡ old.state.name))
    (no_grant : (e : Entry) (marks : List Mark) → entry_let_in (mark e ∷ marks) ≡ entry_let_in marks)
    (sends : List Message) (marks : List Mark) (new : Resource) (client : ℕ)
  where
    -- the first of the queue waits, or is let in
    next_waits : (gone : EndsToNext Ends mark old sends marks new) → gone.next.client ≡ client → IsKeptWaiting new client ⊎ IsLetIn old.state.name client marks
    next_waits gone is =
        subst (λ (c : ℕ). IsKeptWaiting new c ⊎ IsLetIn old.state.name c marks) is
        (elim (asks_waits (record gone.between { queue = gone.rest }) new gone.next.client gone.next.mode gone.requests gone.asked gone.asks) [
          | inl waits ↦ inl waits
          | inr granted ↦ inr (
            granted.0,
            ap entry_let_in gone.marks_are ∙ no_grant gone.entry gone.asked ∙ granted.1,
            granted.2,
            granted.3 ∙ (ended gone.entry gone.replies gone.between gone.ends).1,
          )
        ])

    -- and the others of the queue stay queued
    queued_after : EndTurn Ends mark old sends marks new → IsQueued old client → IsKeptWaiting new client ⊎ IsLetIn old.state.name client marks
    queued_after turn queued =
        elim turn [
          | inl gone ↦ inl (queued_now new old.queue client (ended gone.entry sends new gone.ends).0 queued)
          | inr gone ↦
              elim (any_split (λ (q : Queued). q.client ≡ client) gone.next gone.rest (subst (λ (qs : List Queued). QueuedIn qs client) gone.queue_was queued)) [
                | inl is ↦ next_waits gone is
                | inr rest ↦ inl (queued_now new gone.rest client gone.asks.queue_is rest)
              ]
        ]

leave_keeps : (old new : Resource) (client other : ℕ) (sends : List Message) (marks : List Mark) → LeaveTurn old client sends marks new → IsKeptWaiting old other
    → IsKeptWaiting new other ⊎ IsLetIn old.state.name other marks
leave_keeps old new client other sends marks turn kept =
    elim (kept_cases old other kept) [
      | inl now ↦ absurd (waits_not now)
      | inr queued ↦
          queued_after (Leaves old client) Left old (λ entry replies r ends. (ends.queue_is, ap (λ (s : State). s.name) ends.step.new_is)) (λ e ms. refl) sends marks new other turn queued
    ]
  where
    waits_not : WaitsNow old other → ⊥
    waits_not now =
        elim turn [
          | inl gone ↦ inside_waits_not old.state.phase gone.ends.step.seq now.0 gone.ends.step.mode now.1 gone.ends.step.inside now.2
          | inr gone ↦ inside_waits_not old.state.phase gone.ends.step.seq now.0 gone.ends.step.mode now.1 gone.ends.step.inside now.2
        ]

cancel_keeps : (old new : Resource) (client other : ℕ) (sends : List Message) (marks : List Mark) → (client ≡ other → ⊥) → CancelTurn old client sends marks new → IsKeptWaiting old other
    → IsKeptWaiting new other ⊎ IsLetIn old.state.name other marks
cancel_keeps old new client other sends marks apart turn kept =
    elim turn [
      | inl left ↦ elim (kept_cases old other kept) [
        | inl now ↦ inl (waits_now new now.0 now.1 other (ap (λ (r : Resource). r.state.phase) left.new_is ∙ now.2) (ap (λ (r : Resource). r.client) left.new_is ∙ now.3))
        | inr queued ↦ inl
            (queued_now new (left.before ++ left.after) other (ap (λ (r : Resource). r.queue) left.new_is)
            (any_other (λ (q : Queued). q.client ≡ other) left.before left.gone left.after (λ is. apart (sym left.client_is ∙ is))
            (subst (λ (qs : List Queued). QueuedIn qs other) left.queue_was queued)))
      ]
      | inr gone ↦ elim (kept_cases old other kept) [
        | inl now ↦ absurd (apart (one_client old.client client other (at gone) now.3))
        | inr queued ↦
            queued_after (Withdraws old client) Withdrawn old (λ entry replies r ends. (ends.queue_is, ap (λ (s : State). s.name) ends.step.new_is)) (λ e ms. refl) sends marks new other gone queued
      ]
    ]
  where
    at : EndTurn (Withdraws old client) Withdrawn old sends marks new → old.client ≡ Some client
    at gone =
        elim gone [
          | inl to ↦ (waits_as old.state old.state.phase old.client client to.entry to.ends.waits.requested to.ends.waits.client_is).3
          | inr to ↦ (waits_as old.state old.state.phase old.client client to.entry to.ends.waits.requested to.ends.waits.client_is).3
        ]

-- ---- A message comes

receive_keeps : (old new : Resource) (message : Message) (client : ℕ) (sends : List Message) (marks : List Mark) → ReceiveTurn old message sends marks new → IsKeptWaiting old client
    → IsKeptWaiting new client ⊎ IsLetIn old.state.name client marks
receive_keeps old new (Request from to name mode seq) client sends marks turn kept =
    elim turn.step.1 [
      | inl defers ↦ inl (still old new client (ap (λ (s : State). s.phase) defers.new_is) turn.client_is turn.queue_is kept)
      | inr replies ↦ inl (still old new client (ap (λ (s : State). s.phase) replies.new_is) turn.client_is turn.queue_is kept)
    ]
receive_keeps old new (Reply from to name seq) client sends marks turn kept =
    elim turn.step.1 [
      | inl stray ↦ inl (still old new client (ap (λ (s : State). s.phase) stray.new_is) turn.client_is turn.queue_is kept)
      | inr awaited ↦ elim awaited.1 [
        | inl enters ↦ elim (kept_cases old client kept) [
          | inl now ↦ inr (granted enters.entered_is (ap (λ (s : State). s.name) enters.new_is) now.3)
          | inr queued ↦ inl (queued_now new old.queue client turn.queue_is queued)
        ]
        | inr waits ↦ inl (still old new client (ap (λ (s : State). s.phase) waits.new_is) turn.client_is turn.queue_is kept)
      ]
    ]
  where
    granted : turn.entered ≡ true → new.state.name ≡ old.state.name → old.client ≡ Some client → IsLetIn old.state.name client marks
    granted entered named at =
        let by : EntersBy true new marks = subst (λ (b : Bool). EntersBy b new marks) entered turn.enters in
        let whose = holds_as new.state new.state.phase new.client by.0 by.1 in
        (by.0, ap entry_let_in by.2, one_client new.client by.0.client client whose.0 (turn.client_is ∙ at), whose.1 ∙ named)

-- ---- At a node

-- what holds at the name of an event, and of the resources at all other names
at_each : (old new : NodeState) (here name : List ℕ) (client : ℕ) (marks : List Mark) (r : Resource) → IsConsistentNode old
    → (name ≢ here → resource_at new name ≡ resource_at old name) → resource_at new here ≡ r
    → (name ≡ here → IsKeptWaiting (resource_at old here) client → IsKeptWaiting r client ⊎ IsLetIn (resource_at old here).state.name client marks)
    → IsKeptWaiting (resource_at old name) client → IsKeptWaiting (resource_at new name) client ⊎ IsLetIn name client marks
at_each old new here name client marks r consistent others is turn kept =
    elim (same_or_apart name here) [
      | inl same ↦
          subst (λ (n : List ℕ). IsKeptWaiting (resource_at new n) client ⊎ IsLetIn n client marks) (sym same)
          (elim (turn same (subst (λ (n : List ℕ). IsKeptWaiting (resource_at old n) client) same kept)) [
            | inl waits ↦ inl (subst (λ (x : Resource). IsKeptWaiting x client) (sym is) waits)
            | inr granted ↦ inr (granted.0, granted.1, granted.2, granted.3 ∙ (consistent.each here).name_is)
          ])
      | inr apart ↦ inl (subst (λ (x : Resource). IsKeptWaiting x client) (sym (others apart)) kept)
    ]

pub still_waiting : (old new : NodeState) (event : Event) (sends : List Message) (marks : List Mark) → IsConsistentNode old → NodeEvent old event sends marks new
    → (name : List ℕ) (client : ℕ) → (event ≡ Cancel client name → ⊥) → IsKeptWaiting (resource_at old name) client
    → IsKeptWaiting (resource_at new name) client ⊎ IsLetIn name client marks
still_waiting old new (Ask c here mode) sends marks consistent event name client stays kept =
    at_each old new here name client marks event.resource consistent (other_resource old new (Ask c here mode) sends marks name event tt)
    (ap (λ (n : NodeState). resource_at n here) event.new_is ∙ resource_changed old here event.resource)
    (λ same at. inl (ask_keeps (resource_at old here) event.resource c client mode sends marks event.turn at)) kept
still_waiting old new (Leave c here) sends marks consistent event name client stays kept =
    at_each old new here name client marks event.resource consistent (other_resource old new (Leave c here) sends marks name event tt)
    (ap (λ (n : NodeState). resource_at n here) event.new_is ∙ resource_changed old here event.resource)
    (λ same at. leave_keeps (resource_at old here) event.resource c client sends marks event.turn at) kept
still_waiting old new (Cancel c here) sends marks consistent event name client stays kept =
    at_each old new here name client marks event.resource consistent (other_resource old new (Cancel c here) sends marks name event tt)
    (ap (λ (n : NodeState). resource_at n here) event.new_is ∙ resource_changed old here event.resource)
    (λ same at. cancel_keeps (resource_at old here) event.resource c client sends marks (λ is. stays (λ i. Cancel (is i) (sym same i))) event.turn at) kept
still_waiting old new (Receive message) sends marks consistent event name client stays kept =
    let here = name_of message in
    at_each old new here name client marks event.resource consistent (other_resource old new (Receive message) sends marks name event tt)
    (updated_here old new here event.resource (receive_updates old new message sends marks event))
    (λ same at. receive_keeps (resource_at old here) event.resource message client sends marks event.turn at) kept
still_waiting old new Forget sends marks consistent event name client stays kept =
    inl (subst (λ (x : Resource). IsKeptWaiting x client) (sym (event.resources name))
    (still (resource_at old name) (raised event.number (resource_at old name)) client refl refl refl kept))

-- a client that asks waits then, or is let in
pub asker_waits : (old new : NodeState) (client : ℕ) (name : List ℕ) (mode : Mode) (sends : List Message) (marks : List Mark) → IsConsistentNode old
    → AskEvent old client name mode sends marks new → IsKeptWaiting (resource_at new name) client ⊎ IsLetIn name client marks
asker_waits old new client name mode sends marks consistent event =
    elim (ask_waits (resource_at old name) event.resource client mode sends marks event.turn) [
      | inl waits ↦ inl
          (subst (λ (x : Resource). IsKeptWaiting x client) (sym (ap (λ (n : NodeState). resource_at n name) event.new_is ∙ resource_changed old name event.resource)) waits)
      | inr granted ↦ inr (granted.0, granted.1, granted.2, granted.3 ∙ (consistent.each name).name_is)
    ]
