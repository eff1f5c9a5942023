-- Which events there are.
use Rattle.std.proofs.Common.{◌≡◌, ◌≢◌, ℕ, zero, suc, ◌+◌, ◌<◌, ◌≤◌, ◌⊎◌, Bool, true, false, List, [], ◌∷◌, ◌++◌, Any, map, Option, Some, None, IsSome, refl, sym, ap, ◌∙◌, subst, arith, inl, inr}
use Rattle.std.specs.Ordering.{nat_cmp}
use Rattle.std.specs.FinSet as set
use Rattle.std.specs.FinMap as finmap
use Rattle.std.proofs.lemmas.Bool.{cases_eq, cases_lt, false≢true}
use Rattle.std.proofs.lemmas.Option.{none-some}
use Rattle.ra_stamp.specs.declared.entry.Entry.{Entry}
use Rattle.ra_stamp.specs.declared.entry.Mark.{Mark}
use Rattle.ra_stamp.specs.declared.entry.Mark.TheVariants.{Entered, Left, Withdrawn}
use Rattle.ra_stamp.specs.declared.message.Message.{Message}
use Rattle.ra_stamp.specs.declared.message.Message.TheVariants.{Request, Reply}
use Rattle.ra_stamp.specs.declared.mode.Mode.{Mode}
use Rattle.ra_stamp.specs.Mode.{conflicts, Conflict}
use Rattle.ra_stamp.specs.Message.{name_of}
use Rattle.ra_stamp.specs.Stamp.{IsEarlier}
use Rattle.ra_automaton.specs.declared.phase.Phase.{Phase}
use Rattle.ra_automaton.specs.declared.phase.Phase.TheVariants.{Idle, Waiting, Inside}
use Rattle.ra_automaton.specs.State.{State}
use Rattle.ra_automaton.specs.Steps.{greatest_number, others_of, GoesFirst, OwnGoesFirst, RequestStep, Awaits, TakesReply, ReceiveStep, LeaveStep, WithdrawStep}
use Rattle.ra_node.specs.declared.queued_client.Queued.{Queued}
use Rattle.ra_node.specs.Resource.{Resource, use_in, held_entry, holder_of, waiter_of, Holds, Waits, IsKeptWaiting, ClientFits, clients_of}
use Rattle.ra_node.specs.Turns.{request_marks, next_entry, MayAsk, EntersBy, AsksAtOnce, AskTurn, Leaves, Withdraws, EndTurn, LeaveTurn, CancelTurn}
use Rattle.ra_node.specs.Node.{NodeState, resource_at, with_resource, IsConsistentNode}
use Rattle.ra_node.specs.Events.{AllowsEvent}
use Rattle.ra_node.specs.Events.Event.{Ask, Leave, Cancel, Receive}
use Rattle.ra_node.proofs.Updates.{event_by_turn}
use Rattle.ra_node.proofs.Uses.{some_is, granted_inside, requested_waits}
use Rattle.ra_node.proofs.Distinct.{Once, next_may_ask}

-- ---- Asking

idle_or_not : (phase : Phase) → (phase ≡ Idle) ⊎ (phase ≢ Idle)
idle_or_not Idle = inl refl
idle_or_not (Waiting seq mode) = inr (λ e. cc)
idle_or_not (Inside seq mode) = inr (λ e. cc)

one_or_more : (nodes : ℕ) → 1 ≤ nodes → (1 < nodes) ⊎ (nodes ≡ 1)
one_or_more nodes low = elim (cases_lt 1 nodes) [
  | inl many ↦ inl many
  | inr few ↦ inr (omega (arith, low, few))
]

-- a request that a state may make
requests_of : State → Mode → List Message
requests_of s mode = map (λ other. Request s.me other s.name mode (s.highest + 1)) (others_of s.me s.nodes)

possible_request : (old : State) (mode : Mode) → 1 ≤ old.nodes → old.phase ≡ Idle → old.highest < greatest_number → (entered : Bool) × (new : State) × RequestStep old mode (requests_of old mode) entered new
unfolding requests_of
possible_request old mode low idle left =
    elim (one_or_more old.nodes low) [
      | inl many ↦ (false, _, record { idle = idle; number_left = left; sends_are = refl; begins = inl (record { others = many; entered_is = refl; new_is = refl }) })
      | inr alone ↦ (true, _, record { idle = idle; number_left = left; sends_are = refl; begins = inr (record { alone = alone; entered_is = refl; new_is = refl }) })
    ]

possible_ask : (old : Resource) (client : ℕ) (mode : Mode) → 1 ≤ old.state.nodes → MayAsk old client → (sends : List Message) × (marks : List Mark) × (new : Resource) × AskTurn old client mode sends marks new
possible_ask old client mode low may =
    elim (idle_or_not old.state.phase) [
      | inl idle ↦
          let step = possible_request old.state mode low idle may.number_left in (
            requests_of old.state mode,
            request_marks step.0 (next_entry old client mode),
            record { state = step.1; client = Some client; queue = old.queue },
            (may, inl (record { entered = step.0; step = step.2; marks_are = refl; client_is = refl; queue_is = refl })),
          )
      | inr in-use ↦ ([], [], _, (may, inr (record { in_use = in-use; sends_are = refl; marks_are = refl; new_is = refl })))
    ]

pub ask_is_possible : (old : NodeState) (client : ℕ) (name : List ℕ) (mode : Mode) → IsConsistentNode old → MayAsk (resource_at old name) client → AllowsEvent old (Ask client name mode)
ask_is_possible old client name mode h may =
    let here = h.each name in
    let turn = possible_ask (resource_at old name) client mode here.state.count.0 may in
    (turn.0, turn.1, with_resource old name turn.2, record { resource = turn.2; turn = turn.3; new_is = refl })

pub ask_was_allowed : (old : NodeState) (client : ℕ) (name : List ℕ) (mode : Mode) → AllowsEvent old (Ask client name mode) → MayAsk (resource_at old name) client
ask_was_allowed old client name mode event = event.3.turn.0

-- ---- Leaving

replies_of : State → List Message
replies_of s = map (λ deferred. Reply s.me deferred.0 s.name deferred.1) (finmap.entries s.deferred)

abbrev left_state : State → State
left_state s = record s { phase = Idle; deferred = finmap.empty }

possible_leave : (s : State) (seq : ℕ) (mode : Mode) → s.phase ≡ Inside seq mode → LeaveStep s (replies_of s) (left_state s)
unfolding replies_of
possible_leave s seq mode inside = record { seq = seq; mode = mode; inside = inside; sends_are = refl; new_is = refl }

-- the resource after its client left
abbrev left_resource : Resource → Resource
left_resource r = record { state = left_state r.state; client = None; queue = r.queue }

possible_leaves : (old : Resource) (client : ℕ) (e : Entry) → Holds old client e → Leaves old client e (replies_of old.state) (left_resource old)
possible_leaves old client e holds =
    let inside = granted_inside old.state old.state.phase old.client e holds.granted in
    record { holds = holds; step = possible_leave old.state inside.0 inside.1 inside.2; client_is = refl; queue_is = refl }

empty_or_not : (queue : List Queued) → (queue ≡ []) ⊎ ((next : Queued) × (rest : List Queued) × (queue ≡ next ∷ rest))
empty_or_not [] = inl refl
empty_or_not (q ∷ qs) = inr (q, qs, refl)

-- a request that ends in a way that is possible, with what the automaton is afterwards
module _ (Ends : Entry → List Message → Resource → Type 0) (mark : Entry → Mark) (old : Resource) (entry : Entry) (mid : State) (mid_idle : mid.phase ≡ Idle) (mid_nodes : mid.nodes ≡ old.state.nodes) (mid_highest : mid.highest ≡ old.state.highest)
    (ends : Ends entry (replies_of old.state) (record { state = mid; client = None; queue = old.queue })) where
  abbrev Ended : Type 0
  Ended = (sends : List Message) × (marks : List Mark) × (new : Resource) × EndTurn Ends mark old sends marks new

  abbrev ended : Resource
  ended = record { state = mid; client = None; queue = old.queue }

  end_to_nobody : (old.queue ≡ []) ⊎ (greatest_number ≤ old.state.highest) → Ended
  end_to_nobody nobody = (replies_of old.state, mark entry ∷ [], ended, inl (record { entry = entry; ends = ends; nobody = nobody; marks_are = refl }))

  end_to_next : (next : Queued) (rest : List Queued) → 1 ≤ old.state.nodes → old.queue ≡ next ∷ rest → old.state.highest < greatest_number → Once (clients_of old) → Ended
  end_to_next next rest low queue left once =
      let request = possible_request mid next.mode (omega (arith, low, mid_nodes)) mid_idle (omega (arith, left, mid_highest)) in
      let requests = requests_of mid next.mode in
      let asked = request_marks request.0 (next_entry ended next.client next.mode) in
      let new : Resource = record { state = request.1; client = Some next.client; queue = rest } in
      let asks : AsksAtOnce (record ended { queue = rest }) next.client next.mode requests asked new = record { entered = request.0; step = request.2; marks_are = refl; client_is = refl; queue_is = refl } in (
        replies_of old.state ++ requests,
        mark entry ∷ asked,
        new,
        inr (record {
          entry = entry;
          between = ended;
          replies = replies_of old.state;
          ends = ends;
          next = next;
          rest = rest;
          queue_was = queue;
          requests = requests;
          asked = asked;
          may = next_may_ask old ended next rest queue refl (omega (arith, left, mid_highest)) once;
          asks = asks;
          sends_are = refl;
          marks_are = refl;
        }),
      )

  possible_end : 1 ≤ old.state.nodes → Once (clients_of old) → Ended
  possible_end low once =
      elim (empty_or_not old.queue) [
        | inl none ↦ end_to_nobody (inl none)
        | inr some ↦ elim (cases_lt old.state.highest greatest_number) [
          | inl left ↦ end_to_next some.0 some.1 low some.2 left once
          | inr last ↦ end_to_nobody (inr last)
        ]
      ]

possible_leave_turn : (old : Resource) (client : ℕ) (e : Entry) → 1 ≤ old.state.nodes → Once (clients_of old) → Holds old client e → (sends : List Message) × (marks : List Mark) × (new : Resource) × LeaveTurn old client sends marks new
possible_leave_turn old client e low once holds = possible_end (Leaves old client) Left old e (left_state old.state) refl refl refl (possible_leaves old client e holds) low once

pub leave_is_possible : (old : NodeState) (client : ℕ) (name : List ℕ) → IsConsistentNode old → (entry : Entry) × Holds (resource_at old name) client entry → AllowsEvent old (Leave client name)
leave_is_possible old client name h held =
    let turn = possible_leave_turn (resource_at old name) client held.0 (h.each name).state.count.0 (h.each name).once held.1 in
    (turn.0, turn.1, with_resource old name turn.2, record { resource = turn.2; turn = turn.3; new_is = refl })

pub leave_was_allowed : (old : NodeState) (client : ℕ) (name : List ℕ) → AllowsEvent old (Leave client name) → (entry : Entry) × Holds (resource_at old name) client entry
leave_was_allowed old client name event =
    elim event.3.turn [
      | inl x ↦ (x.entry, x.ends.holds)
      | inr x ↦ (x.entry, x.ends.holds)
    ]

-- ---- Giving up

abbrev withdrawn_state : State → State
withdrawn_state s = record s { phase = Idle; awaited = set.empty; deferred = finmap.empty }

possible_withdraw : (s : State) (seq : ℕ) (mode : Mode) → s.phase ≡ Waiting seq mode → WithdrawStep s (replies_of s) (withdrawn_state s)
unfolding replies_of
possible_withdraw s seq mode waits = record { seq = seq; mode = mode; waits = waits; sends_are = refl; new_is = refl }

possible_withdraws : (old : Resource) (client : ℕ) (e : Entry) → Waits old client e → Withdraws old client e (replies_of old.state) (record { state = withdrawn_state old.state; client = None; queue = old.queue })
possible_withdraws old client e waits =
    let phase = requested_waits old.state old.state.phase old.client e waits.requested in
    record { waits = waits; step = possible_withdraw old.state phase.0 phase.1 phase.2; client_is = refl; queue_is = refl }

-- whether a client waits
waits_or_not : (r : Resource) (client : ℕ) → ((e : Entry) × Waits r client e) ⊎ ((e : Entry) → Waits r client e → ⊥)
waits_or_not r client = of_waiter (waiter_of r) refl
  where
    of_waiter : (o : Option Entry) → waiter_of r ≡ o → ((e : Entry) × Waits r client e) ⊎ ((e : Entry) → Waits r client e → ⊥)
    of_waiter None none = inr (λ e waits. none-some e (sym none ∙ waits.requested))
    of_waiter (Some x) is = elim (cases_eq x.client client) [
      | inl same ↦ inl (x, record { requested = is; client_is = same })
      | inr apart ↦ inr (λ e waits. apart (ap (λ (y : Entry). y.client) (some_is x e (sym is ∙ waits.requested)) ∙ waits.client_is))
    ]

-- the first place of a client in a queue
record FirstPlace (queue : List Queued) (client : ℕ) : Type 0 where
  before : List Queued
  gone : Queued
  after : List Queued
  client_is : gone.client ≡ client
  queue_was : queue ≡ before ++ gone ∷ after
  not_before : Any (λ q. q.client ≡ client) before → ⊥

first_place : (queue : List Queued) (client : ℕ) → Any (λ q. q.client ≡ client) queue → FirstPlace queue client
first_place [] client any = absurd (omega (arith, any.2))
first_place (q ∷ qs) client any = elim (cases_eq q.client client) [
  | inl same ↦ record { before = []; gone = q; after = qs; client_is = same; queue_was = refl; not_before = λ none. omega (arith, none.2) }
  | inr apart ↦
      let rest = first_place qs client (later q qs any apart) in
      record {
        before = q ∷ rest.before;
        gone = rest.gone;
        after = rest.after;
        client_is = rest.client_is;
        queue_was = ap (λ (xs : List Queued). q ∷ xs) rest.queue_was;
        not_before = λ one. rest.not_before (later q rest.before one apart);
      }
]
  where
    later : (q : Queued) (qs : List Queued) → Any (λ x. x.client ≡ client) (q ∷ qs) → q.client ≢ client → Any (λ x. x.client ≡ client) qs
    later q qs (zero, x, lt, is, here) apart = absurd (apart (ap (λ (y : Queued). y.client) is ∙ here))
    later q qs (suc k, x, lt, is, here) apart = (k, x, omega (arith, lt), is, here)

possible_cancel_turn : (old : Resource) (client : ℕ) → 1 ≤ old.state.nodes → Once (clients_of old) → IsKeptWaiting old client → (sends : List Message) × (marks : List Mark) × (new : Resource) × CancelTurn old client sends marks new
possible_cancel_turn old client low once kept =
    elim (waits_or_not old client) [
      | inl waits ↦
          let end = possible_end (Withdraws old client) Withdrawn old waits.0 (withdrawn_state old.state) refl refl refl (possible_withdraws old client waits.0 waits.1) low once in
          (end.0, end.1, end.2, inr end.3)
      | inr not ↦ elim kept [
        | inl waits ↦ absurd (not waits.0 waits.1)
        | inr queued ↦
            let place = first_place old.queue client queued in (
              [],
              [],
              record old { queue = place.before ++ place.after },
              inl (record {
                before = place.before;
                gone = place.gone;
                after = place.after;
                client_is = place.client_is;
                queue_was = place.queue_was;
                not_before = place.not_before;
                waits_not = not;
                sends_are = refl;
                marks_are = refl;
                new_is = refl;
              }),
            )
      ]
    ]

pub cancel_is_possible : (old : NodeState) (client : ℕ) (name : List ℕ) → IsConsistentNode old → IsKeptWaiting (resource_at old name) client → AllowsEvent old (Cancel client name)
cancel_is_possible old client name h kept =
    let turn = possible_cancel_turn (resource_at old name) client (h.each name).state.count.0 (h.each name).once kept in
    (turn.0, turn.1, with_resource old name turn.2, record { resource = turn.2; turn = turn.3; new_is = refl })

-- a client that is in a queue is queued
in_queue : (queue before after : List Queued) (gone : Queued) (client : ℕ) → gone.client ≡ client → queue ≡ before ++ gone ∷ after → Any (λ q. q.client ≡ client) queue
in_queue queue before after gone client is was = subst (λ (qs : List Queued). Any (λ q. q.client ≡ client) qs) (sym was) (at_place before)
  where
    at_place : (before : List Queued) → Any (λ q. q.client ≡ client) (before ++ gone ∷ after)
    at_place [] = (0, gone, omega arith, refl, is)
    at_place (x ∷ xs) = let rest = at_place xs in (suc rest.0, rest.1, omega (arith, rest.2), rest.3, rest.4)

pub kept_waiting_before : (old : Resource) (client : ℕ) (sends : List Message) (marks : List Mark) (new : Resource) → CancelTurn old client sends marks new → IsKeptWaiting old client
kept_waiting_before old client sends marks new turn =
    elim turn [
      | inl goes ↦ inr (in_queue old.queue goes.before goes.after goes.gone client goes.client_is goes.queue_was)
      | inr ends ↦ elim ends [
        | inl x ↦ inl (x.entry, x.ends.waits)
        | inr x ↦ inl (x.entry, x.ends.waits)
      ]
    ]

pub cancel_was_allowed : (old : NodeState) (client : ℕ) (name : List ℕ) → AllowsEvent old (Cancel client name) → IsKeptWaiting (resource_at old name) client
cancel_was_allowed old client name event = kept_waiting_before (resource_at old name) client event.0 event.1 event.3.resource event.3.turn

-- ---- Receiving

abbrev IsDecided : Type 0 → Type 0
IsDecided A = A ⊎ (A → ⊥)

earlier_decided : (s i t j : ℕ) → IsDecided (IsEarlier (record { seq = s; node = i }) (record { seq = t; node = j }))
earlier_decided s i t j =
    elim (cases_lt s t) [
      | inl lt ↦ inl (inl lt)
      | inr ge ↦ elim (cases_lt t s) [
        | inl gt ↦ inr (λ e. elim e [ inl k ↦ omega (arith, gt, k) | inr k ↦ omega (arith, gt, k.0) ])
        | inr le ↦ elim (cases_lt i j) [
          | inl node ↦ inl (inr (omega (arith, ge, le), node))
          | inr other ↦ inr (λ e. elim e [ inl k ↦ omega (arith, ge, k) | inr k ↦ omega (arith, other, k.1) ])
        ]
      ]
    ]

conflict_decided : (a b : Mode) → IsDecided (Conflict a b)
conflict_decided a b =
    elim (conflicts a b) as (λ t. conflicts a b ≡ t → IsDecided (Conflict a b)) [
      | true ↦ λ e. inl e
      | false ↦ λ e. inr (λ c. false≢true (sym e ∙ c))
    ] refl

first_decided : (me seq : ℕ) (mode : Mode) (other number : ℕ) (wanted : Mode) → IsDecided (GoesFirst me seq mode other number wanted)
first_decided me seq mode other number wanted =
    elim (conflict_decided mode wanted) [
      | inr none ↦ inr (λ g. none g.excludes)
      | inl excludes ↦ elim (earlier_decided seq me number other) [
        | inl earlier ↦ inl (record { excludes = excludes; earlier = earlier })
        | inr later ↦ inr (λ g. later g.earlier)
      ]
    ]

own_decided : (phase : Phase) (me other number : ℕ) (wanted : Mode) → IsDecided (OwnGoesFirst phase me other number wanted)
own_decided Idle me other number wanted = inr (λ e. e)
own_decided (Waiting seq mode) me other number wanted = first_decided me seq mode other number wanted
own_decided (Inside seq mode) me other number wanted = first_decided me seq mode other number wanted

abbrev number_in : Phase → ℕ
number_in Idle = 0
number_in (Waiting seq mode) = seq
number_in (Inside seq mode) = seq

waits_decided : (phase : Phase) (number : ℕ) → ((mode : Mode) × (phase ≡ Waiting number mode)) ⊎ ((mode : Mode) → phase ≡ Waiting number mode → ⊥)
waits_decided Idle number = inr (λ mode e. cc)
waits_decided (Inside seq mode) number = inr (λ m e. cc)
waits_decided (Waiting seq mode) number =
    elim (cases_eq seq number) [
      | inl same ↦ inl (mode, ap (λ (k : ℕ). Waiting k mode) same)
      | inr apart ↦ inr (λ m e. apart (ap number_in e))
    ]

awaits_decided : (s : State) (other number : ℕ) → ((mode : Mode) × Awaits s other number mode) ⊎ ((mode : Mode) → Awaits s other number mode → ⊥)
awaits_decided s other number =
    elim (waits_decided s.phase number) [
      | inr never ↦ inr (λ mode a. never mode a.waits)
      | inl waits ↦ elim (set.contains s.awaited other) as (λ t. set.contains s.awaited other ≡ t → ((mode : Mode) × Awaits s other number mode) ⊎ ((mode : Mode) → Awaits s other number mode → ⊥)) [
        | true ↦ λ e. inl (waits.0, record { waits = waits.1; awaited = e })
        | false ↦ λ e. inr (λ mode a. false≢true (sym e ∙ a.awaited))
      ] refl
    ]

empty_decided : (s : set.FinSet nat_cmp) → IsDecided (s ≡ set.empty)
empty_decided s =
    elim (cases_eq (set.len s) 0) [
      | inl none ↦ inl (set.empty_of_len s none)
      | inr some ↦ inr (λ e. some (ap (λ (x : set.FinSet nat_cmp). set.len x) e ∙ set.len-empty nat_cmp))
    ]

possible_reply : (s : State) (other number : ℕ) → (entered : Bool) × (new : State) × TakesReply s other number entered new
possible_reply s other number =
    elim (awaits_decided s other number) [
      | inr stray ↦ (false, s, inl (record { not_awaited = stray; entered_is = refl; new_is = refl }))
      | inl awaits ↦ elim (empty_decided (set.remove s.awaited other)) [
        | inl last ↦ (true, _, inr (awaits.0, inl (record { awaits = awaits.1; last = last; entered_is = refl; new_is = refl })))
        | inr more ↦ (false, _, inr (awaits.0, inr (record { awaits = awaits.1; not_last = more; entered_is = refl; new_is = refl })))
      ]
    ]

pub possible_receive : (s : State) (message : Message) → (sends : List Message) × (entered : Bool) × (new : State) × ReceiveStep s message sends entered new
possible_receive s (Request from to name mode seq) =
    elim (own_decided s.phase s.me from seq mode) [
      | inl first ↦ ([], false, _, (refl, inl (record { own_first = first; sends_are = refl; new_is = refl })))
      | inr not-first ↦ (Reply s.me from s.name seq ∷ [], false, _, (refl, inr (record { not_first = not-first; sends_are = refl; new_is = refl })))
    ]
possible_receive s (Reply from to name seq) =
    let taken = possible_reply s from seq in
    ([], taken.0, taken.1, (refl, taken.2))

-- if a message lets a node enter, the node waited, and so it has a client
entered_holds : (old : State) (message : Message) (sends : List Message) (new : State) (client : Option ℕ) → ReceiveStep old message sends true new → ClientFits old.phase client
    → (e : Entry) × (held_entry (use_in new new.phase client) ≡ Some e)
entered_holds old (Request from to name mode seq) sends new client step fits = absurd (false≢true (sym step.0))
entered_holds old (Reply from to name seq) sends new client step fits =
    elim step.1 [
      | inl stray ↦ absurd (false≢true (sym stray.entered_is))
      | inr awaited ↦ elim awaited.1 [
        | inl enters ↦
            let some : IsSome client = subst (λ (p : Phase). ClientFits p client) enters.awaits.waits fits in
            subst (λ (s : State). (e : Entry) × (held_entry (use_in s s.phase client) ≡ Some e)) (sym enters.new_is) (granted (record old { phase = Inside seq awaited.0; awaited = set.empty }) seq awaited.0 client some)
        | inr waits ↦ absurd (false≢true (sym waits.entered_is))
      ]
    ]
  where
    granted : (s : State) (seq : ℕ) (mode : Mode) (client : Option ℕ) → IsSome client → (e : Entry) × (held_entry (use_in s (Inside seq mode) client) ≡ Some e)
    granted s seq mode None some = absurd (false≢true some)
    granted s seq mode (Some c) some = (_, refl)

marks_of_entry : (entered : Bool) (new : Resource) → (entered ≡ true → (e : Entry) × (holder_of new ≡ Some e)) → (marks : List Mark) × EntersBy entered new marks
marks_of_entry false new held = ([], refl)
marks_of_entry true new held = let e = held refl in (Entered e.0 ∷ [], (e.0, e.1, refl))

pub receive_is_possible : (old : NodeState) (message : Message) → IsConsistentNode old → AllowsEvent old (Receive message)
receive_is_possible old message h =
    let name = name_of message in
    let r = resource_at old name in
    let step = possible_receive r.state message in
    let new : Resource = record { state = step.2; client = r.client; queue = r.queue } in
    let marks = marks_of_entry step.1 new (λ e. entered_holds r.state message step.0 step.2 r.client (subst (λ (t : Bool). ReceiveStep r.state message step.0 t step.2) e step.3) (h.each name).client_fits) in
    let after = event_by_turn old message step.0 marks.0 new (record { entered = step.1; step = step.3; enters = marks.1; client_is = refl; queue_is = refl }) in
    (step.0, marks.0, after.0, after.1)
