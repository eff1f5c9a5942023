-- The marks of each turn lead from the use before it to the one after it.
use Rattle.std.proofs.Common.{◌≡◌, ℕ, ◌+◌, Bool, true, false, List, [], ◌∷◌, Option, Some, None, refl, sym, ap, ◌∙◌, subst, inl, inr}
use Rattle.std.proofs.lemmas.Bool.{false≢true}
use Rattle.ra_stamp.specs.declared.entry.Entry.{Entry}
use Rattle.ra_stamp.specs.declared.entry.Mark.{Mark}
use Rattle.ra_stamp.specs.declared.message.Message.{Message}
use Rattle.ra_stamp.specs.declared.message.Message.TheVariants.{Request, Reply}
use Rattle.ra_stamp.specs.declared.mode.Mode.{Mode}
use Rattle.ra_automaton.specs.declared.phase.Phase.{Phase}
use Rattle.ra_automaton.specs.declared.phase.Phase.TheVariants.{Idle, Waiting, Inside}
use Rattle.ra_automaton.specs.State.{State}
use Rattle.ra_automaton.specs.Steps.{RequestStep, ReceiveStep}
use Rattle.ra_node.specs.Resource.{Resource, entry_of, Use, use_in, use_of}
use Rattle.ra_node.specs.Resource.Use.{Nobody, WaitsBy, HoldsBy}
use Rattle.ra_stamp.specs.declared.entry.Mark.TheVariants.{Left, Withdrawn}
use Rattle.ra_node.specs.Turns.{request_marks, next_entry, EntersBy, AsksAtOnce, AskTurn, Leaves, Withdraws, EndTurn, LeaveTurn, CancelTurn, ReceiveTurn}
use Rattle.ra_node.proofs.Endings.{AreEnded, leaves_ended, withdraws_ended}
use Rattle.ra_node.specs.Carried.{MarksLead}
use Rattle.ra_node.proofs.Uses.{holder_holds, waiter_waits}

-- nobody uses a resource if its node is idle
idle_is_free : (s : State) (client : Option ℕ) → use_in s Idle client ≡ Nobody
idle_is_free s None = refl
idle_is_free s (Some client) = refl

free_when_idle : (s : State) (client : Option ℕ) → s.phase ≡ Idle → use_in s s.phase client ≡ Nobody
free_when_idle s client idle = ap (λ (p : Phase). use_in s p client) idle ∙ idle_is_free s client

-- a request that was made waits, or is granted at once
abbrev made : Bool → Entry → Use
made false e = WaitsBy e
made true e = HoldsBy e

request_made : (old : State) (mode : Mode) (sends : List Message) (entered : Bool) (new : State) (client : ℕ) → RequestStep old mode sends entered new
    → use_in new new.phase (Some client) ≡ made entered (entry_of old.me old.name (old.highest + 1) client mode)
request_made old mode sends entered new client step =
    let e = entry_of old.me old.name (old.highest + 1) client mode in
    elim step.begins [
      | inl asks ↦ ap (λ (s : State). use_in s s.phase (Some client)) asks.new_is ∙ sym (ap (λ (t : Bool). made t e) asks.entered_is)
      | inr alone ↦ ap (λ (s : State). use_in s s.phase (Some client)) alone.new_is ∙ sym (ap (λ (t : Bool). made t e) alone.entered_is)
    ]

request_leads : (entered : Bool) (e : Entry) (after : Use) → after ≡ made entered e → MarksLead Nobody (request_marks entered e) after
request_leads false e after is = (refl, is)
request_leads true e after is = (refl, (refl, is))

-- before an ask at an idle node, nobody uses the resource
asking_leads : (old : Resource) (client : ℕ) (mode : Mode) (sends : List Message) (marks : List Mark) (new : Resource) → AsksAtOnce old client mode sends marks new → MarksLead Nobody marks (use_of new)
asking_leads old client mode sends marks new asks =
    let e = next_entry old client mode in
    let after : use_of new ≡ made asks.entered e = ap (λ (c : Option ℕ). use_in new.state new.state.phase c) asks.client_is ∙ request_made old.state mode sends asks.entered new.state client asks.step in
    subst (λ (ms : List Mark). MarksLead Nobody ms (use_of new)) (sym asks.marks_are) (request_leads asks.entered e (use_of new) after)

pub ask_leads : (old : Resource) (client : ℕ) (mode : Mode) (sends : List Message) (marks : List Mark) (new : Resource) → AskTurn old client mode sends marks new → MarksLead (use_of old) marks (use_of new)
ask_leads old client mode sends marks new turn =
    elim turn.1 [
      | inl asks ↦ subst (λ (u : Use). MarksLead u marks (use_of new)) (sym (free_when_idle old.state old.client asks.step.idle)) (asking_leads old client mode sends marks new asks)
      | inr queues ↦ subst (λ (ms : List Mark). MarksLead (use_of old) ms (use_of new)) (sym queues.marks_are) (ap use_of queues.new_is)
    ]

-- the end of a request leads from its use, by its mark
end_leads : (Ends : Entry → List Message → Resource → Type 0) (mark : Entry → Mark) (was : Entry → Use) (old : Resource) → AreEnded old Ends
    → ((entry : Entry) (sends : List Message) (new : Resource) → Ends entry sends new → use_of old ≡ was entry)
    → ((entry : Entry) (marks : List Mark) (after : Use) → use_of old ≡ was entry → MarksLead Nobody marks after → MarksLead (use_of old) (mark entry ∷ marks) after)
    → (sends : List Message) (marks : List Mark) (new : Resource) → EndTurn Ends mark old sends marks new → MarksLead (use_of old) marks (use_of new)
end_leads Ends mark was old ended used first sends marks new turn =
    elim turn [
      | inl nobody ↦
          subst (λ (ms : List Mark). MarksLead (use_of old) ms (use_of new)) (sym nobody.marks_are)
          (first nobody.entry [] (use_of new) (used nobody.entry sends new nobody.ends) (free_when_idle new.state new.client (ended nobody.entry sends new nobody.ends).step.idle))
      | inr hands ↦
          subst (λ (ms : List Mark). MarksLead (use_of old) ms (use_of new)) (sym hands.marks_are)
          (first hands.entry hands.asked (use_of new) (used hands.entry hands.replies hands.between hands.ends)
          (asking_leads (record hands.between { queue = hands.rest }) hands.next.client hands.next.mode hands.requests hands.asked new hands.asks))
    ]

pub leave_leads : (old : Resource) (client : ℕ) (sends : List Message) (marks : List Mark) (new : Resource) → LeaveTurn old client sends marks new → MarksLead (use_of old) marks (use_of new)
leave_leads old client sends marks new turn =
    end_leads (Leaves old client) Left HoldsBy old (leaves_ended old client) (λ entry sends new leaves. holder_holds old entry leaves.holds.granted) (λ entry marks after held rest. (held, rest)) sends marks new turn

pub cancel_leads : (old : Resource) (client : ℕ) (sends : List Message) (marks : List Mark) (new : Resource) → CancelTurn old client sends marks new → MarksLead (use_of old) marks (use_of new)
cancel_leads old client sends marks new turn =
    elim turn [
      | inl goes ↦ subst (λ (ms : List Mark). MarksLead (use_of old) ms (use_of new)) (sym goes.marks_are) (ap use_of goes.new_is)
      | inr ends ↦
          end_leads (Withdraws old client) Withdrawn WaitsBy old (withdraws_ended old client) (λ entry sends new withdraws. waiter_waits old entry withdraws.waits.requested)
          (λ entry marks after waits rest. (waits, rest)) sends marks new ends
    ]

same_in : (s t : State) (phase : Phase) (client : Option ℕ) → s.me ≡ t.me → s.name ≡ t.name → use_in s phase client ≡ use_in t phase client
same_in s t phase None me name = refl
same_in s t Idle (Some client) me name = refl
same_in s t (Waiting seq mode) (Some client) me name = λ i. WaitsBy (entry_of (me i) (name i) seq client mode)
same_in s t (Inside seq mode) (Some client) me name = λ i. HoldsBy (entry_of (me i) (name i) seq client mode)

same_use : (s t : State) (client : Option ℕ) → s.me ≡ t.me → s.name ≡ t.name → s.phase ≡ t.phase → use_in s s.phase client ≡ use_in t t.phase client
same_use s t client me name phase = same_in s t s.phase client me name ∙ ap (λ (p : Phase). use_in t p client) phase

-- a message that lets nobody enter does not change who uses the resource
use_stays : (old : State) (message : Message) (sends : List Message) (new : State) (client : Option ℕ) → ReceiveStep old message sends false new → use_in new new.phase client ≡ use_in old old.phase client
use_stays old (Request from to name mode seq) sends new client step =
    elim step.1 [
      | inl defers ↦ same_use new old client (ap (λ (s : State). s.me) defers.new_is) (ap (λ (s : State). s.name) defers.new_is) (ap (λ (s : State). s.phase) defers.new_is)
      | inr replies ↦ same_use new old client (ap (λ (s : State). s.me) replies.new_is) (ap (λ (s : State). s.name) replies.new_is) (ap (λ (s : State). s.phase) replies.new_is)
    ]
use_stays old (Reply from to name seq) sends new client step =
    elim step.1 [
      | inl stray ↦ ap (λ (s : State). use_in s s.phase client) stray.new_is
      | inr awaited ↦ elim awaited.1 [
        | inl enters ↦ absurd (false≢true enters.entered_is)
        | inr waits ↦ same_use new old client (ap (λ (s : State). s.me) waits.new_is) (ap (λ (s : State). s.name) waits.new_is) (ap (λ (s : State). s.phase) waits.new_is)
      ]
    ]

-- the request that is granted after a message waited before it
waited_before : (old : State) (message : Message) (sends : List Message) (new : State) (client : Option ℕ) (e : Entry) → ReceiveStep old message sends true new → use_in new new.phase client ≡ HoldsBy e
    → use_in old old.phase client ≡ WaitsBy e
waited_before old (Request from to name mode seq) sends new client e step held = absurd (false≢true (sym step.0))
waited_before old (Reply from to name seq) sends new client e step held =
    elim step.1 [
      | inl stray ↦ absurd (false≢true (sym stray.entered_is))
      | inr awaited ↦ elim awaited.1 [
        | inl enters ↦
            let after : use_in old (Inside seq awaited.0) client ≡ HoldsBy e =
            sym (same_in new old (Inside seq awaited.0) client (ap (λ (s : State). s.me) enters.new_is) (ap (λ (s : State). s.name) enters.new_is))
            ∙ sym (ap (λ (p : Phase). use_in new p client) (ap (λ (s : State). s.phase) enters.new_is))
            ∙ held
            in
            ap (λ (p : Phase). use_in old p client) enters.awaits.waits ∙ waits_as old seq awaited.0 client e after
        | inr waits ↦ absurd (false≢true (sym waits.entered_is))
      ]
    ]
  where
    entry_or : Entry → Use → Entry
    entry_or d Nobody = d
    entry_or d (WaitsBy x) = d
    entry_or d (HoldsBy x) = x

    not_nobody : (x : Entry) → Nobody ≡ HoldsBy x → ⊥
    not_nobody x is = cc

    waits_as : (s : State) (seq : ℕ) (mode : Mode) (client : Option ℕ) (e : Entry) → use_in s (Inside seq mode) client ≡ HoldsBy e → use_in s (Waiting seq mode) client ≡ WaitsBy e
    waits_as s seq mode None e is = absurd (not_nobody e is)
    waits_as s seq mode (Some client) e is = ap (λ (u : Use). WaitsBy (entry_or e u)) is

entering_leads : (entered : Bool) (old : Resource) (message : Message) (sends : List Message) (marks : List Mark) (new : Resource) → ReceiveStep old.state message sends entered new.state → new.client ≡ old.client
    → EntersBy entered new marks → MarksLead (use_of old) marks (use_of new)
entering_leads false old message sends marks new step client enters =
    subst (λ (ms : List Mark). MarksLead (use_of old) ms (use_of new)) (sym enters)
    (ap (λ (c : Option ℕ). use_in new.state new.state.phase c) client ∙ use_stays old.state message sends new.state old.client step)
entering_leads true old message sends marks new step client enters =
    let holds : use_of new ≡ HoldsBy enters.0 = holder_holds new enters.0 enters.1 in
    let waited = waited_before old.state message sends new.state new.client enters.0 step holds in
    subst (λ (ms : List Mark). MarksLead (use_of old) ms (use_of new)) (sym enters.2)
    (sym (ap (λ (c : Option ℕ). use_in old.state old.state.phase c) client) ∙ waited, holds)

pub receive_leads : (old : Resource) (message : Message) (sends : List Message) (marks : List Mark) (new : Resource) → ReceiveTurn old message sends marks new → MarksLead (use_of old) marks (use_of new)
receive_leads old message sends marks new turn = entering_leads turn.entered old message sends marks new turn.step turn.client_is turn.enters
