-- What a turn keeps of a resource, and what its marks are about.
use Rattle.std.proofs.Common.{◌≡◌, ◌≢◌, length, ℕ, ◌+◌, ◌≤◌, Bool, true, false, List, [], ◌∷◌, All, Option, Some, None, refl, sym, ap, ◌∙◌, subst, arith, inl, inr}
use Rattle.std.proofs.lemmas.List.Elements.{All-nil, All-cons, All-append}
use Rattle.ra_stamp.specs.declared.entry.Entry.{Entry}
use Rattle.ra_stamp.specs.declared.entry.Mark.{Mark}
use Rattle.ra_stamp.specs.declared.entry.Mark.TheVariants.{Requested, Entered, Left, Withdrawn}
use Rattle.ra_stamp.specs.Mark.{entry_of_mark}
use Rattle.ra_stamp.specs.declared.message.Message.{Message}
use Rattle.ra_stamp.specs.declared.message.Message.TheVariants.{Request, Reply}
use Rattle.ra_stamp.specs.declared.mode.Mode.{Mode}
use Rattle.ra_stamp.specs.Message.{to_of}
use Rattle.ra_automaton.specs.declared.phase.Phase.{Phase}
use Rattle.ra_automaton.specs.declared.phase.Phase.TheVariants.{Idle, Waiting, Inside}
use Rattle.ra_automaton.specs.State.{State, HasNumber, IsOtherNode, IsConsistent}
use Rattle.ra_automaton.specs.Steps.{greatest_number, RequestStep, ReceiveStep}
use Rattle.ra_automaton.proofs.Ending.{EndStep}
use Rattle.ra_node.specs.Resource.{Resource, use_in, held_entry, waiting_entry, ClientFits, IsConsistentResource}
use Rattle.ra_node.specs.Turns.{request_marks, next_entry, EntersBy, AskTurn, Leaves, Withdraws, EndsToNext, EndTurn, LeaveTurn, CancelTurn, ReceiveTurn}
use Rattle.ra_node.specs.Carried.{IsMark}
use Rattle.ra_node.specs.declared.queued_client.Queued.{Queued}
use Rattle.std.proofs.lemmas.Option.{none-some}
use Rattle.ra_node.proofs.Uses.{some_is}
use Rattle.std.proofs.lemmas.List.{length-append}
use Rattle.ra_node.proofs.Distinct.{standing, Once, asks_once, queues_once, leaves_once, hands_once, taken_once}
use Rattle.ra_node.proofs.Endings.{AreEnded, leaves_ended, withdraws_ended}
use Rattle.ra_node.proofs.Sends.{IsNumberedSend, requests_are_sends, replies_are_sends}

-- ---- What a step keeps of a state

pub record Keeps (old new : State) : Type 0 where
  pub me_is : new.me ≡ old.me
  pub nodes_is : new.nodes ≡ old.nodes
  pub name_is : new.name ≡ old.name
  pub higher : old.highest ≤ new.highest

kept_by : (old new same : State) → new ≡ same → Keeps old same → Keeps old new
kept_by old new same e k = subst (λ (s : State). Keeps old s) (sym e) k

request_keeps : (old : State) (mode : Mode) (sends : List Message) (entered : Bool) (new : State) → RequestStep old mode sends entered new → Keeps old new
request_keeps old mode sends entered new step =
    elim step.begins [
      | inl asks ↦ kept_by old new _ asks.new_is (record { me_is = refl; nodes_is = refl; name_is = refl; higher = omega arith })
      | inr alone ↦ kept_by old new _ alone.new_is (record { me_is = refl; nodes_is = refl; name_is = refl; higher = omega arith })
    ]

pub end_keeps : (old : State) (sends : List Message) (new : State) → EndStep old sends new → Keeps old new
end_keeps old sends new step = record { me_is = step.me_is; nodes_is = step.nodes_is; name_is = step.name_is; higher = omega (arith, step.highest_is) }

keeps_on : (a b c : State) → Keeps a b → Keeps b c → Keeps a c
keeps_on a b c p q = record { me_is = q.me_is ∙ p.me_is; nodes_is = q.nodes_is ∙ p.nodes_is; name_is = q.name_is ∙ p.name_is; higher = omega (arith, p.higher, q.higher) }

handed_keeps : (Ends : Entry → List Message → Resource → Type 0) (mark : Entry → Mark) (old : Resource) → AreEnded old Ends → (sends : List Message) (marks : List Mark) (new : Resource) → EndsToNext Ends mark old sends marks new → Keeps old.state new.state
handed_keeps Ends mark old ended sends marks new hands =
    let between = hands.between.state in
    keeps_on old.state between new.state (end_keeps old.state hands.replies between (ended hands.entry hands.replies hands.between hands.ends).step)
    (request_keeps between hands.next.mode hands.requests hands.asks.entered new.state hands.asks.step)

receive_keeps : (old : State) (message : Message) (sends : List Message) (entered : Bool) (new : State) → ReceiveStep old message sends entered new → Keeps old new
receive_keeps old (Request from to name mode seq) sends entered new step =
    elim step.1 [
      | inl defers ↦ kept_by old new _ defers.new_is (record { me_is = refl; nodes_is = refl; name_is = refl; higher = omega arith })
      | inr replies ↦ kept_by old new _ replies.new_is (record { me_is = refl; nodes_is = refl; name_is = refl; higher = omega arith })
    ]
receive_keeps old (Reply from to name seq) sends entered new step =
    elim step.1 [
      | inl stray ↦ kept_by old new _ stray.new_is (record { me_is = refl; nodes_is = refl; name_is = refl; higher = omega arith })
      | inr awaited ↦ elim awaited.1 [
        | inl enters ↦ kept_by old new _ enters.new_is (record { me_is = refl; nodes_is = refl; name_is = refl; higher = omega arith })
        | inr waits ↦ kept_by old new _ waits.new_is (record { me_is = refl; nodes_is = refl; name_is = refl; higher = omega arith })
      ]
    ]

-- ---- A request makes a phase that a client fits

-- the node waits or is inside
abbrev pub IsBusyPhase : Phase → Type 0
IsBusyPhase Idle = ⊥
IsBusyPhase (Waiting seq mode) = Unit {0}
IsBusyPhase (Inside seq mode) = Unit {0}

some_fits : (phase : Phase) (client : ℕ) → IsBusyPhase phase → ClientFits phase (Some client)
some_fits Idle client busy = absurd busy
some_fits (Waiting seq mode) client busy = refl
some_fits (Inside seq mode) client busy = refl

not_idle : (phase : Phase) → IsBusyPhase phase → phase ≡ Idle → ⊥
not_idle phase busy e = subst IsBusyPhase e busy

request_is_busy : (old : State) (mode : Mode) (sends : List Message) (entered : Bool) (new : State) → RequestStep old mode sends entered new → IsBusyPhase new.phase
request_is_busy old mode sends entered new step =
    elim step.begins [
      | inl asks ↦ subst (λ (s : State). IsBusyPhase s.phase) (sym asks.new_is) tt
      | inr alone ↦ subst (λ (s : State). IsBusyPhase s.phase) (sym alone.new_is) tt
    ]

-- ---- What a message does to the phase: a waiting node may enter, and otherwise the phase stays

receive_fits : (old : State) (message : Message) (sends : List Message) (entered : Bool) (new : State) (client : Option ℕ) → ReceiveStep old message sends entered new
    → ClientFits old.phase client → ClientFits new.phase client
receive_fits old (Request from to name mode seq) sends entered new client step fits =
    elim step.1 [
      | inl defers ↦ subst (λ (s : State). ClientFits s.phase client) (sym defers.new_is) fits
      | inr replies ↦ subst (λ (s : State). ClientFits s.phase client) (sym replies.new_is) fits
    ]
receive_fits old (Reply from to name seq) sends entered new client step fits =
    elim step.1 [
      | inl stray ↦ subst (λ (s : State). ClientFits s.phase client) (sym stray.new_is) fits
      | inr awaited ↦ elim awaited.1 [
        | inl enters ↦ subst (λ (s : State). ClientFits s.phase client) (sym enters.new_is) (subst (λ (p : Phase). ClientFits p client) enters.awaits.waits fits)
        | inr waits ↦ subst (λ (s : State). ClientFits s.phase client) (sym waits.new_is) fits
      ]
    ]

receive_idle : (old : State) (message : Message) (sends : List Message) (entered : Bool) (new : State) → ReceiveStep old message sends entered new → new.phase ≡ Idle → old.phase ≡ Idle
receive_idle old (Request from to name mode seq) sends entered new step idle =
    elim step.1 [
      | inl defers ↦ sym (ap (λ (s : State). s.phase) defers.new_is) ∙ idle
      | inr replies ↦ sym (ap (λ (s : State). s.phase) replies.new_is) ∙ idle
    ]
receive_idle old (Reply from to name seq) sends entered new step idle =
    elim step.1 [
      | inl stray ↦ sym (ap (λ (s : State). s.phase) stray.new_is) ∙ idle
      | inr awaited ↦ elim awaited.1 [
        | inl enters ↦ absurd (not_idle (Inside seq awaited.0) tt (sym (ap (λ (s : State). s.phase) enters.new_is) ∙ idle))
        | inr waits ↦ sym (ap (λ (s : State). s.phase) waits.new_is) ∙ idle
      ]
    ]

nobody_when_idle : (phase : Phase) (client : Option ℕ) → phase ≡ Idle → ClientFits phase client → client ≡ None
nobody_when_idle phase client idle fits = subst (λ (p : Phase). ClientFits p client) idle fits

-- ---- Each turn leads from a consistent resource to one

module _ (me nodes : ℕ) (name : List ℕ) (start : ℕ) where
  kept_resource : (old new : Resource) → IsConsistentResource me nodes name start old → Keeps old.state new.state → IsConsistent new.state → ClientFits new.state.phase new.client
      → Once (standing new.client new.queue) → (new.state.phase ≡ Idle → new.queue ≢ [] → greatest_number ≤ new.state.highest) → IsConsistentResource me nodes name start new
  kept_resource old new h keeps state fits once stays =
      record {
        state = state;
        me_is = keeps.me_is ∙ h.me_is;
        nodes_is = keeps.nodes_is ∙ h.nodes_is;
        name_is = keeps.name_is ∙ h.name_is;
        from_start = omega (arith, h.from_start, keeps.higher);
        client_fits = fits;
        once = once;
        queue_stays = stays;
      }

  pub ask_kept : (old : Resource) (client : ℕ) (mode : Mode) (sends : List Message) (marks : List Mark) (new : Resource) → AskTurn old client mode sends marks new
      → IsConsistent new.state → IsConsistentResource me nodes name start old → IsConsistentResource me nodes name start new
  ask_kept old client mode sends marks new turn state h =
      elim turn.1 [
        | inl asks ↦
            let busy = request_is_busy old.state mode sends asks.entered new.state asks.step in
            kept_resource old new h (request_keeps old.state mode sends asks.entered new.state asks.step) state
            (subst (λ (c : Option ℕ). ClientFits new.state.phase c) (sym asks.client_is) (some_fits new.state.phase client busy))
            (subst Once (λ i. standing (sym asks.client_is i) (sym asks.queue_is i)) (asks_once old client turn.0 (nobody_when_idle old.state.phase old.client asks.step.idle h.client_fits) h.once))
            (λ idle some. absurd (not_idle new.state.phase busy idle))
        | inr queues ↦
            let is = queues.new_is in
            let same = ap (λ (r : Resource). r.state) is in
            kept_resource old new h (kept_by old.state new.state old.state same (record { me_is = refl; nodes_is = refl; name_is = refl; higher = omega arith })) state
            (subst (λ (r : Resource). ClientFits r.state.phase r.client) (sym is) h.client_fits)
            (subst (λ (r : Resource). Once (standing r.client r.queue)) (sym is) (queues_once old client _ refl turn.0 h.once))
            (λ idle some. absurd (queues.in_use (sym (ap (λ (s : State). s.phase) same) ∙ idle)))
      ]

  -- the current request ends, and the next client may ask
  end_kept : (Ends : Entry → List Message → Resource → Type 0) (mark : Entry → Mark) (old : Resource) → AreEnded old Ends → (sends : List Message) (marks : List Mark) (new : Resource) → EndTurn Ends mark old sends marks new
      → IsConsistent new.state → IsConsistentResource me nodes name start old → IsConsistentResource me nodes name start new
  end_kept Ends mark old ended sends marks new turn state h =
      elim turn [
        | inl nobody ↦
            let gone = ended nobody.entry sends new nobody.ends in
            let keeps = end_keeps old.state sends new.state gone.step in
            kept_resource old new h keeps state
            (subst (λ (p : Phase). ClientFits p new.client) (sym gone.step.idle) gone.client_is)
            (subst Once (λ i. standing (sym gone.client_is i) (sym gone.queue_is i)) (leaves_once old.client old.queue h.once))
            (λ _ some. elim nobody.nobody [
              | inl none ↦ absurd (some (gone.queue_is ∙ none))
              | inr last ↦ omega (arith, last, keeps.higher)
            ])
        | inr hands ↦
            let between = hands.between.state in
            let asks = hands.asks in
            let busy = request_is_busy between hands.next.mode hands.requests asks.entered new.state asks.step in
            kept_resource old new h (handed_keeps Ends mark old ended sends marks new hands) state
            (subst (λ (c : Option ℕ). ClientFits new.state.phase c) (sym asks.client_is) (some_fits new.state.phase hands.next.client busy))
            (subst Once (λ i. standing (sym asks.client_is i) (sym asks.queue_is i))
            (hands_once old.client hands.next hands.rest (subst (λ (qs : List Queued). Once (standing old.client qs)) hands.queue_was h.once)))
            (λ idle some. absurd (not_idle new.state.phase busy idle))
      ]

  pub leave_kept : (old : Resource) (client : ℕ) (sends : List Message) (marks : List Mark) (new : Resource) → LeaveTurn old client sends marks new
      → IsConsistent new.state → IsConsistentResource me nodes name start old → IsConsistentResource me nodes name start new
  leave_kept old client sends marks new turn state h = end_kept (Leaves old client) Left old (leaves_ended old client) sends marks new turn state h

  pub cancel_kept : (old : Resource) (client : ℕ) (sends : List Message) (marks : List Mark) (new : Resource) → CancelTurn old client sends marks new
      → IsConsistent new.state → IsConsistentResource me nodes name start old → IsConsistentResource me nodes name start new
  cancel_kept old client sends marks new turn state h =
      elim turn [
        | inr ends ↦ end_kept (Withdraws old client) Withdrawn old (withdraws_ended old client) sends marks new ends state h
        | inl goes ↦
            let some : old.queue ≢ [] = λ none. absurd (omega (arith, ap length goes.queue_was, ap length none, length-append goes.before (goes.gone ∷ goes.after))) in
            subst (λ (r : Resource). IsConsistentResource me nodes name start r) (sym goes.new_is) (record {
              state = h.state;
              me_is = h.me_is;
              nodes_is = h.nodes_is;
              name_is = h.name_is;
              from_start = h.from_start;
              client_fits = h.client_fits;
              once = taken_once old.client goes.before goes.gone goes.after (subst (λ (qs : List Queued). Once (standing old.client qs)) goes.queue_was h.once);
              queue_stays = λ idle _. h.queue_stays idle some;
            })
      ]

  pub receive_kept : (old : Resource) (message : Message) (sends : List Message) (marks : List Mark) (new : Resource) → ReceiveTurn old message sends marks new
      → IsConsistent new.state → IsConsistentResource me nodes name start old → IsConsistentResource me nodes name start new
  receive_kept old message sends marks new turn state h =
      let keeps = receive_keeps old.state message sends turn.entered new.state turn.step in
      kept_resource old new h keeps state
      (subst (λ (c : Option ℕ). ClientFits new.state.phase c) (sym turn.client_is) (receive_fits old.state message sends turn.entered new.state old.client turn.step h.client_fits))
      (subst Once (λ i. standing (sym turn.client_is i) (sym turn.queue_is i)) h.once)
      (λ idle some.
      let before = h.queue_stays (receive_idle old.state message sends turn.entered new.state turn.step idle) (λ none. some (turn.queue_is ∙ none)) in
      omega (arith, before, keeps.higher))

-- ---- The messages of each turn

pub IsSendOf-moved : (s t : State) (message : Message) → t.me ≡ s.me → t.nodes ≡ s.nodes → t.name ≡ s.name → IsNumberedSend t message → IsNumberedSend s message
IsSendOf-moved s t message me nodes name h =
    (record { from = h.0.from ∙ me; to = subst (λ (k : ℕ). IsOtherNode s.me k (to_of message)) nodes (subst (λ (k : ℕ). IsOtherNode k t.nodes (to_of message)) me h.0.to); name_is = h.0.name_is ∙ name }, h.1)

request_sends : (old : State) (mode : Mode) (sends : List Message) (entered : Bool) (new : State) → RequestStep old mode sends entered new → All (IsNumberedSend old) sends
request_sends old mode sends entered new step = subst (λ (ms : List Message). All (IsNumberedSend old) ms) (sym step.sends_are) (requests_are_sends old mode (old.highest + 1) (omega arith))

pub ask_sends : (old : Resource) (client : ℕ) (mode : Mode) (sends : List Message) (marks : List Mark) (new : Resource) → AskTurn old client mode sends marks new → All (IsNumberedSend old.state) sends
ask_sends old client mode sends marks new turn =
    elim turn.1 [
      | inl asks ↦ request_sends old.state mode sends asks.entered new.state asks.step
      | inr queues ↦ subst (λ (ms : List Message). All (IsNumberedSend old.state) ms) (sym queues.sends_are) (All-nil (IsNumberedSend old.state))
    ]

end_step_sends : (old : State) (sends : List Message) (new : State) → IsConsistent old → EndStep old sends new → All (IsNumberedSend old) sends
end_step_sends old sends new h step = subst (λ (ms : List Message). All (IsNumberedSend old) ms) (sym step.sends_are) (replies_are_sends old h)

end_sends : (Ends : Entry → List Message → Resource → Type 0) (mark : Entry → Mark) (old : Resource) → AreEnded old Ends → (sends : List Message) (marks : List Mark) (new : Resource) → IsConsistent old.state → EndTurn Ends mark old sends marks new
    → All (IsNumberedSend old.state) sends
end_sends Ends mark old ended sends marks new h turn =
    elim turn [
      | inl nobody ↦ end_step_sends old.state sends new.state h (ended nobody.entry sends new nobody.ends).step
      | inr hands ↦
          let between = hands.between.state in
          let step = (ended hands.entry hands.replies hands.between hands.ends).step in
          let keeps = end_keeps old.state hands.replies between step in
          subst (λ (ms : List Message). All (IsNumberedSend old.state) ms) (sym hands.sends_are)
          (All-append (IsNumberedSend old.state) hands.replies hands.requests
          (end_step_sends old.state hands.replies between h step)
          (λ k d lt. IsSendOf-moved old.state between _ keeps.me_is keeps.nodes_is keeps.name_is (request_sends between hands.next.mode hands.requests hands.asks.entered new.state hands.asks.step k d lt)))
    ]

pub leave_sends : (old : Resource) (client : ℕ) (sends : List Message) (marks : List Mark) (new : Resource) → IsConsistent old.state → LeaveTurn old client sends marks new → All (IsNumberedSend old.state) sends
leave_sends old client sends marks new h turn = end_sends (Leaves old client) Left old (leaves_ended old client) sends marks new h turn

pub cancel_sends : (old : Resource) (client : ℕ) (sends : List Message) (marks : List Mark) (new : Resource) → IsConsistent old.state → CancelTurn old client sends marks new → All (IsNumberedSend old.state) sends
cancel_sends old client sends marks new h turn =
    elim turn [
      | inl goes ↦ subst (λ (ms : List Message). All (IsNumberedSend old.state) ms) (sym goes.sends_are) (All-nil (IsNumberedSend old.state))
      | inr ends ↦ end_sends (Withdraws old client) Withdrawn old (withdraws_ended old client) sends marks new h ends
    ]

-- ---- The marks of each turn

requested_marked : (me : ℕ) (name : List ℕ) (e : Entry) → e.stamp.node ≡ me → e.name ≡ name → 1 ≤ e.stamp.seq → IsMark me name (Requested e)
requested_marked me name e node is low = record { node_is = node; name_is = is; numbered = low }

entered_marked : (me : ℕ) (name : List ℕ) (e : Entry) → e.stamp.node ≡ me → e.name ≡ name → 1 ≤ e.stamp.seq → IsMark me name (Entered e)
entered_marked me name e node is low = record { node_is = node; name_is = is; numbered = low }

request_marked : (me : ℕ) (name : List ℕ) (entered : Bool) (e : Entry) → e.stamp.node ≡ me → e.name ≡ name → 1 ≤ e.stamp.seq → All (IsMark me name) (request_marks entered e)
request_marked me name false e node is low = All-cons (IsMark me name) (Requested e) [] (requested_marked me name e node is low) (All-nil (IsMark me name))
request_marked me name true e node is low =
    All-cons (IsMark me name) (Requested e) (Entered e ∷ []) (requested_marked me name e node is low)
    (All-cons (IsMark me name) (Entered e) [] (entered_marked me name e node is low) (All-nil (IsMark me name)))

pub ask_marks : (old : Resource) (client : ℕ) (mode : Mode) (sends : List Message) (marks : List Mark) (new : Resource) → AskTurn old client mode sends marks new → All (IsMark old.state.me old.state.name) marks
ask_marks old client mode sends marks new turn =
    elim turn.1 [
      | inl asks ↦ subst (λ (ms : List Mark). All (IsMark old.state.me old.state.name) ms) (sym asks.marks_are) (request_marked old.state.me old.state.name asks.entered (next_entry old client mode) refl refl (omega arith))
      | inr queues ↦ subst (λ (ms : List Mark). All (IsMark old.state.me old.state.name) ms) (sym queues.marks_are) (All-nil (IsMark old.state.me old.state.name))
    ]

-- the granted request is of this node, about this resource, and has a number
pub record IsOwn (s : State) (e : Entry) : Type 0 where
  pub node_is : e.stamp.node ≡ s.me
  pub name_is : e.name ≡ s.name
  pub numbered : 1 ≤ e.stamp.seq

pub holder_is_own : (s : State) (phase : Phase) (client : Option ℕ) (e : Entry) → HasNumber phase s.highest → held_entry (use_in s phase client) ≡ Some e → IsOwn s e
holder_is_own s Idle None e numbered is = absurd (none-some e is)
holder_is_own s Idle (Some client) e numbered is = absurd (none-some e is)
holder_is_own s (Waiting seq mode) None e numbered is = absurd (none-some e is)
holder_is_own s (Waiting seq mode) (Some client) e numbered is = absurd (none-some e is)
holder_is_own s (Inside seq mode) None e numbered is = absurd (none-some e is)
holder_is_own s (Inside seq mode) (Some client) e numbered is = subst (λ (x : Entry). IsOwn s x) (some_is _ e is) (record { node_is = refl; name_is = refl; numbered = numbered.0 })

pub waiter_is_own : (s : State) (phase : Phase) (client : Option ℕ) (e : Entry) → HasNumber phase s.highest → waiting_entry (use_in s phase client) ≡ Some e → IsOwn s e
waiter_is_own s Idle None e numbered is = absurd (none-some e is)
waiter_is_own s Idle (Some client) e numbered is = absurd (none-some e is)
waiter_is_own s (Inside seq mode) None e numbered is = absurd (none-some e is)
waiter_is_own s (Inside seq mode) (Some client) e numbered is = absurd (none-some e is)
waiter_is_own s (Waiting seq mode) None e numbered is = absurd (none-some e is)
waiter_is_own s (Waiting seq mode) (Some client) e numbered is = subst (λ (x : Entry). IsOwn s x) (some_is _ e is) (record { node_is = refl; name_is = refl; numbered = numbered.0 })

module _ (Ends : Entry → List Message → Resource → Type 0) (mark : Entry → Mark) (tells : (e : Entry) → entry_of_mark (mark e) ≡ e) (old : Resource) (ended : AreEnded old Ends) (h : IsConsistent old.state) where
  ended_is_own : (entry : Entry) (sends : List Message) (new : Resource) → Ends entry sends new → IsOwn old.state entry
  ended_is_own entry sends new ends = elim (ended entry sends new ends).was [
    | inl held ↦ holder_is_own old.state old.state.phase old.client entry h.numbered held
    | inr waits ↦ waiter_is_own old.state old.state.phase old.client entry h.numbered waits
  ]

  -- the mark of the end, before others
  end_first : (entry : Entry) (sends : List Message) (new : Resource) (marks : List Mark) → Ends entry sends new
      → All (IsMark old.state.me old.state.name) marks → All (IsMark old.state.me old.state.name) (mark entry ∷ marks)
  end_first entry sends new marks ends others =
      let own = ended_is_own entry sends new ends in
      let told = tells entry in
      All-cons (IsMark old.state.me old.state.name) (mark entry) marks
      (record {
        node_is = ap (λ (x : Entry). x.stamp.node) told ∙ own.node_is;
        name_is = ap (λ (x : Entry). x.name) told ∙ own.name_is;
        numbered = subst (λ (x : Entry). 1 ≤ x.stamp.seq) (sym told) own.numbered;
      }) others

  end_marks : (sends : List Message) (marks : List Mark) (new : Resource) → EndTurn Ends mark old sends marks new → All (IsMark old.state.me old.state.name) marks
  end_marks sends marks new turn =
      elim turn [
        | inl nobody ↦
            subst (λ (ms : List Mark). All (IsMark old.state.me old.state.name) ms) (sym nobody.marks_are)
            (end_first nobody.entry sends new [] nobody.ends (All-nil (IsMark old.state.me old.state.name)))
        | inr hands ↦
            let asks = hands.asks in
            let keeps = end_keeps old.state hands.replies hands.between.state (ended hands.entry hands.replies hands.between hands.ends).step in
            let requested = request_marked old.state.me old.state.name asks.entered (next_entry hands.between hands.next.client hands.next.mode) keeps.me_is keeps.name_is (omega arith) in
            subst (λ (ms : List Mark). All (IsMark old.state.me old.state.name) ms) (sym hands.marks_are)
            (end_first hands.entry hands.replies hands.between hands.asked hands.ends
            (subst (λ (ms : List Mark). All (IsMark old.state.me old.state.name) ms) (sym asks.marks_are) requested))
      ]

pub leave_marks : (old : Resource) (client : ℕ) (sends : List Message) (marks : List Mark) (new : Resource) → IsConsistent old.state → LeaveTurn old client sends marks new → All (IsMark old.state.me old.state.name) marks
leave_marks old client sends marks new h turn = end_marks (Leaves old client) Left (λ e. refl) old (leaves_ended old client) h sends marks new turn

pub cancel_marks : (old : Resource) (client : ℕ) (sends : List Message) (marks : List Mark) (new : Resource) → IsConsistent old.state → CancelTurn old client sends marks new → All (IsMark old.state.me old.state.name) marks
cancel_marks old client sends marks new h turn =
    elim turn [
      | inl goes ↦ subst (λ (ms : List Mark). All (IsMark old.state.me old.state.name) ms) (sym goes.marks_are) (All-nil (IsMark old.state.me old.state.name))
      | inr ends ↦ end_marks (Withdraws old client) Withdrawn (λ e. refl) old (withdraws_ended old client) h sends marks new ends
    ]

enters_marked : (me : ℕ) (name : List ℕ) (entered : Bool) (new : Resource) (marks : List Mark) → new.state.me ≡ me → new.state.name ≡ name → IsConsistent new.state → EntersBy entered new marks → All (IsMark me name) marks
enters_marked me name false new marks m n h none = subst (λ (ms : List Mark). All (IsMark me name) ms) (sym none) (All-nil (IsMark me name))
enters_marked me name true new marks m n h enters =
    let own = holder_is_own new.state new.state.phase new.client enters.0 h.numbered enters.1 in
    subst (λ (ms : List Mark). All (IsMark me name) ms) (sym enters.2)
    (All-cons (IsMark me name) (Entered enters.0) [] (entered_marked me name enters.0 (own.node_is ∙ m) (own.name_is ∙ n) own.numbered) (All-nil (IsMark me name)))

pub receive_marks : (old : Resource) (message : Message) (sends : List Message) (marks : List Mark) (new : Resource) → IsConsistent new.state → ReceiveTurn old message sends marks new
    → All (IsMark old.state.me old.state.name) marks
receive_marks old message sends marks new h turn =
    let keeps = receive_keeps old.state message sends turn.entered new.state turn.step in
    enters_marked old.state.me old.state.name turn.entered new marks keeps.me_is keeps.name_is h turn.enters
