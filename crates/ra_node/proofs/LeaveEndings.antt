-- The end of a request and another request in one step of the automaton are an end that hands over to the next client; and how a
-- leave ends.
use Rattle.std.proofs.Common.{◌≡◌, ℕ, Bool, List, [], ◌∷◌, ◌++◌, ◌⊎◌, ◌≤◌, length, take, get_or, Option, Some, None, Result, Ok, Err, MatchResult, ◌↔◌, MatchOption, ◌+◌, refl, sym, ap, ◌∙◌, subst, arith, inl, inr}
use Rattle.std.specs.Prelude.{IsOk, IsErrOf}
use Rattle.std.proofs.lemmas.Bool.{false≢true}
use Rattle.ra_stamp.specs.declared.entry.Entry.{Entry}
use Rattle.ra_stamp.specs.declared.entry.Mark.{Mark}
use Rattle.ra_stamp.specs.declared.entry.Mark.TheVariants.{Left}
use Rattle.ra_stamp.specs.declared.message.Message.{Message}
use Rattle.ra_automaton.specs.declared.error.LeaveError.{LeaveError as Fault}
use Rattle.ra_automaton.specs.declared.error.LeaveError.TheVariants as fault
use Rattle.ra_automaton.specs.declared.phase.Phase.{Phase}
use Rattle.ra_automaton.specs.State.{State, IsConsistent, IsInside}
use Rattle.ra_automaton.specs.Steps.{LeaveStep, EndAndRequestStep, greatest_number}
use Rattle.ra_automaton.proofs.Ending.{EndStep, leave_ends}
use Rattle.ra_node.specs.declared.queued_client.Queued.{Queued}
use Rattle.ra_node.specs.declared.error.LeaveError.{LeaveError}
use Rattle.ra_node.specs.declared.error.LeaveError.TheVariants.{NotHeld, Memory}
use Rattle.ra_node.specs.declared.outcome.Outcome.{Outcome}
use Rattle.ra_node.specs.Faults.{IsLeaveRefusal}
use Rattle.ra_node.specs.Room.{answer_with}
use Rattle.ra_node.specs.HandedOver.{IsHandedOver}
use Rattle.ra_node.specs.Resource.{Resource, Holds, entry_of, clients_of}
use Rattle.ra_node.specs.Turns.{request_marks, next_entry, Leaves, EndTurn, EndsToNext, LeaveTurn}
use Rattle.ra_node.proofs.Distinct.{Once, next_may_ask}
use Rattle.ra_node.proofs.Uses.{granted_inside}

-- a request of this entry ends in this way if the automaton's does in that way
pub record EndsBy (Ends : Entry → List Message → Resource → Type 0) (Step : State → List Message → State → Type 0) (old : Resource) (entry : Entry) : Type 0 where
  pub ends : (sends : List Message) (s : State) (queue : List Queued) → Step old.state sends s → queue ≡ old.queue → Ends entry sends (record { state = s; client = None; queue = queue })
  pub step : (sends : List Message) (s : State) → Step old.state sends s → EndStep old.state sends s

module _ (Ends : Entry → List Message → Resource → Type 0) (mark : Entry → Mark) (Step : State → List Message → State → Type 0) (old : Resource) (entry : Entry) (by : EndsBy Ends Step old entry) where
  pub hands_over : (next : Queued) (sends : List Message) (marks : List Mark) (entered : Bool) (new : Resource) → Once (clients_of old) → old.queue ≡ next ∷ new.queue
      → EndAndRequestStep (Step old.state) next.mode sends entered new.state → new.client ≡ Some next.client → marks ≡ mark entry ∷ request_marks entered (next_entry old next.client next.mode) → EndsToNext Ends mark old sends marks new
  hands_over next sends marks entered new once queue-was step client-is marks-are =
      let between : Resource = record { state = step.between; client = None; queue = old.queue } in
      let asked = request_marks entered (next_entry between next.client next.mode) in
      let end = by.step step.replies step.between step.ends in
      let same : next_entry old next.client next.mode ≡ next_entry between next.client next.mode =
      sym (λ i. entry_of (end.me_is i) (end.name_is i) (end.highest_is i + 1) next.client next.mode)
      in
      record {
        entry = entry;
        between = between;
        replies = step.replies;
        ends = by.ends step.replies step.between old.queue step.ends refl;
        next = next;
        rest = new.queue;
        queue_was = queue-was;
        requests = step.requests;
        asked = asked;
        may = next_may_ask old between next new.queue queue-was refl step.asks.number_left once;
        asks = record { entered = entered; step = step.asks; marks_are = refl; client_is = client-is; queue_is = refl };
        sends_are = step.sends_are;
        marks_are = marks-are ∙ ap (λ (e : Entry). mark entry ∷ request_marks entered e) same;
      }

  -- what the automaton did if nobody asks next, at a slot with these parts
  pub ended_to_nobody : (state state' : State) (at : Option ℕ) (queue : List Queued) (sends : List Message) (marks : List Mark) → record { state = state; client = at; queue = queue } ≡ old → Step state sends state'
      → (old.queue ≡ []) ⊎ (greatest_number ≤ old.state.highest) → marks ≡ mark entry ∷ [] → EndTurn Ends mark old sends marks (record { state = state'; client = None; queue = queue })
  ended_to_nobody state state' at queue sends marks is step nobody marks-are =
      inl (record {
        entry = entry;
        ends = by.ends sends state' queue (subst (λ (r : Resource). Step r.state sends state') is step) (ap (λ (r : Resource). r.queue) is);
        nobody = nobody;
        marks_are = marks-are;
      })

  -- what the call did with which the next client asks
  pub ended_to_next : {E : Type 0} (result : Result Outcome E) (new : Resource) (next : Queued) (before : List Mark) (Refused Refused' : E → Type 0) → Once (clients_of old) → before ≡ mark entry ∷ [] → ((fault : E) → Refused fault → Refused' fault)
      → MatchResult result (λ o. IsHandedOver (Step old.state) old next o.sends.items before o.marks.items new × IsConsistent new.state) (λ fault. Refused fault × (new ≡ old))
      → MatchResult result (λ o. EndTurn Ends mark old o.sends.items o.marks.items new × IsConsistent new.state) (λ fault. Refused' fault × (new ≡ old))
  ended_to_next (Ok o) new next before Refused Refused' once is refuses ended =
      let handed = ended.0 in
      let marks = handed.marks_are ∙ ap (λ (ms : List Mark). ms ++ request_marks handed.entered (next_entry old next.client next.mode)) is in
      (inr (hands_over next o.sends.items o.marks.items handed.entered new once handed.queue_was handed.step handed.client_is marks), ended.1)
  ended_to_next (Err fault) new next before Refused Refused' once is refuses ended = (refuses fault ended.0, ended.1)

-- what the automaton did and what was taken out of the queue, at a slot with these parts
pub parts_handed_over : (Step : State → List Message → State → Type 0) (state state' : State) (client : Option ℕ) (queue queue' : List Queued) (old : Resource) (next : Queued) (taken : Option Queued) (sends : List Message) (before marks : List Mark) (entered : Bool)
    → record { state = state; client = client; queue = queue } ≡ old
    → EndAndRequestStep (Step state) next.mode sends entered state' → take 1 old.queue ≡ next ∷ [] → MatchOption taken ((queue ≡ []) × (queue' ≡ [])) (λ first. queue ≡ first ∷ queue') → marks ≡ before ++ request_marks entered (next_entry old next.client next.mode)
    → IsHandedOver (Step old.state) old next sends before marks (record { state = state'; client = Some next.client; queue = queue' })
parts_handed_over Step state state' client queue queue' old next taken sends before marks entered is step first was marks-are =
    record {
      entered = entered;
      step = subst (λ (r : Resource). EndAndRequestStep (Step r.state) next.mode sends entered state') is step;
      marks_are = marks-are;
      client_is = refl;
      queue_was = sym (ap (λ (r : Resource). r.queue) is) ∙ behind taken (ap (λ (r : Resource). take 1 r.queue) is ∙ first) was;
    }
  where
    same_first : (a b : Queued) → a ∷ [] ≡ b ∷ [] → a ≡ b
    same_first a b e = ap (λ (queued : List Queued). get_or queued 0 a) e

    behind : (it : Option Queued) → take 1 queue ≡ next ∷ [] → MatchOption it ((queue ≡ []) × (queue' ≡ [])) (λ first. queue ≡ first ∷ queue') → queue ≡ next ∷ queue'
    behind None first none = absurd (omega (arith, ap (λ (queued : List Queued). length queued) (ap (take 1) (sym none.0) ∙ first)))
    behind (Some it) first is = is ∙ ap (λ (q : Queued). q ∷ queue') (same_first it next (ap (take 1) (sym is) ∙ first))

-- ---- How a leave ends

-- what succeeds is not refused
pub not_refused : {T E : Type 0} (r : Result T E) (e : E) → IsOk r → IsErrOf r e → ⊥
not_refused (Ok v) e ok is = absurd cc
not_refused (Err f) e ok is = false≢true ok

-- a refusal for lack of memory is not `NotHeld`
pub memory_alone : {T : Type 0} (r : Result T LeaveError) (outcome : Outcome) (P : Outcome → Type 0) (Q : Type 0) → MatchResult (answer_with r outcome) P (λ fault. (fault ≡ Memory) × Q) → IsErrOf r NotHeld → ⊥
memory_alone (Ok v) outcome P Q ended is = absurd cc
memory_alone {T} (Err f) outcome P Q ended is = not_memory (same_fault {T = T} f is ∙ ended.0)
  where
    same_fault : {T : Type 0} (f : LeaveError) → IsErrOf {T = T} (Err f) NotHeld → NotHeld ≡ f
    same_fault f h = cc

    not_memory : NotHeld ≡ Memory → ⊥
    not_memory e = cc

-- and so is no leave of an automaton that is inside, if memory does not run out
pub never_refused : {T : Type 0} (e : Fault) (phase : Phase) → IsErrOf {T = T} (Err e) fault.NotHeld ↔ (IsInside phase → ⊥) → (IsErrOf {T = T} (Err e) fault.Memory → ⊥) → IsInside phase → ⊥
never_refused fault.NotHeld phase not_held room inside = not_held.0 refl inside
never_refused fault.Memory phase not_held room inside = room refl

module _ (old : Resource) (client : ℕ) (held : Entry) (holds : Holds old client held) where
  pub holds_inside : IsInside old.state.phase
  holds_inside =
      let (seq, mode, is) = granted_inside old.state old.state.phase old.client held holds.granted in
      subst IsInside (sym is) tt

  left_by : EndsBy (Leaves old client) LeaveStep old held
  left_by = record { ends = λ sends s queue step same. record { holds = holds; step = step; client_is = refl; queue_is = same }; step = leave_ends old.state }

  pub left_to_nobody : (state state' : State) (at : Option ℕ) (queue : List Queued) (sends : List Message) (marks : List Mark) → record { state = state; client = at; queue = queue } ≡ old → LeaveStep state sends state'
      → (old.queue ≡ []) ⊎ (greatest_number ≤ old.state.highest) → marks ≡ Left held ∷ [] → LeaveTurn old client sends marks (record { state = state'; client = None; queue = queue })
  left_to_nobody = ended_to_nobody (Leaves old client) Left LeaveStep old held left_by

  pub left_to_next : (result : Result Outcome LeaveError) (new : Resource) (next : Queued) (before : List Mark) → Once (clients_of old) → before ≡ Left held ∷ []
      → MatchResult result (λ o. IsHandedOver (LeaveStep old.state) old next o.sends.items before o.marks.items new × IsConsistent new.state) (λ fault. (fault ≡ Memory) × (new ≡ old))
      → MatchResult result (λ o. LeaveTurn old client o.sends.items o.marks.items new × IsConsistent new.state) (λ fault. IsLeaveRefusal old client fault × (new ≡ old))
  left_to_next result new next before once is =
      ended_to_next (Leaves old client) Left LeaveStep old held left_by result new next before (λ fault. fault ≡ Memory) (IsLeaveRefusal old client) once is
      (λ fault memory. subst (λ (f : LeaveError). IsLeaveRefusal old client f) (sym memory) (held, holds))
