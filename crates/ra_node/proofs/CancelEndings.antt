-- How a cancel ends.
use Rattle.std.proofs.Common.{◌≡◌, ◌⊎◌, ◌≤◌, ℕ, true, List, [], ◌∷◌, Any, map, Option, None, Result, Ok, Err, MatchResult, ◌↔◌, refl, sym, ap, ◌∙◌, subst, inl, inr}
use Rattle.std.specs.Prelude.{IsErrOf}
use Rattle.ra_stamp.specs.declared.entry.Entry.{Entry}
use Rattle.ra_stamp.specs.declared.entry.Mark.{Mark}
use Rattle.ra_stamp.specs.declared.entry.Mark.TheVariants.{Withdrawn}
use Rattle.ra_stamp.specs.declared.message.Message.{Message}
use Rattle.ra_automaton.specs.declared.error.WithdrawError.{WithdrawError as Fault}
use Rattle.ra_automaton.specs.declared.error.WithdrawError.TheVariants as fault
use Rattle.ra_automaton.specs.declared.phase.Phase.{Phase}
use Rattle.ra_automaton.specs.State.{State, IsConsistent, IsWaitingPhase}
use Rattle.ra_automaton.specs.Steps.{WithdrawStep, greatest_number}
use Rattle.ra_automaton.proofs.Ending.{withdraw_ends}
use Rattle.ra_node.specs.declared.queued_client.Queued.{Queued}
use Rattle.ra_node.specs.declared.error.CancelError.{CancelError}
use Rattle.ra_node.specs.declared.error.CancelError.TheVariants.{NotWaiting, Memory}
use Rattle.ra_node.specs.declared.outcome.Outcome.{Outcome}
use Rattle.ra_node.specs.Faults.{IsCancelRefusal}
use Rattle.ra_node.specs.Room.{answer_with}
use Rattle.ra_node.specs.HandedOver.{IsHandedOver}
use Rattle.ra_node.specs.Queue.{TakesOut}
use Rattle.ra_node.specs.Resource.{Resource, Waits, clients_of}
use Rattle.ra_node.specs.Turns.{Withdraws, EndTurn, CancelTurn}
use Rattle.ra_node.proofs.Distinct.{Once, leaves_once, taken_apart_before}
use Rattle.ra_node.proofs.LeaveEndings.{EndsBy, ended_to_nobody, ended_to_next}
use Rattle.ra_node.proofs.Uses.{requested_waits}

-- a refusal for lack of memory is not `NotWaiting`
pub memory_alone : {T : Type 0} (r : Result T CancelError) (outcome : Outcome) (P : Outcome → Type 0) (Q : Type 0) → MatchResult (answer_with r outcome) P (λ fault. (fault ≡ Memory) × Q) → IsErrOf r NotWaiting → ⊥
memory_alone (Ok v) outcome P Q ended is = absurd cc
memory_alone {T} (Err f) outcome P Q ended is = not_memory (same_fault {T = T} f is ∙ ended.0)
  where
    same_fault : {T : Type 0} (f : CancelError) → IsErrOf {T = T} (Err f) NotWaiting → NotWaiting ≡ f
    same_fault f h = cc

    not_memory : NotWaiting ≡ Memory → ⊥
    not_memory e = cc

-- and so is no withdrawal of an automaton that waits, if memory does not run out
pub never_refused : {T : Type 0} (e : Fault) (phase : Phase) → IsErrOf {T = T} (Err e) fault.NotWaiting ↔ (IsWaitingPhase phase → ⊥) → (IsErrOf {T = T} (Err e) fault.Memory → ⊥) → IsWaitingPhase phase → ⊥
never_refused fault.NotWaiting phase not_waiting room waits = not_waiting.0 refl waits
never_refused fault.Memory phase not_waiting room waits = room refl

module _ (old : Resource) (client : ℕ) (waiting : Entry) (waits : Waits old client waiting) where
  pub waits_in_phase : IsWaitingPhase old.state.phase
  waits_in_phase =
      let (seq, mode, is) = requested_waits old.state old.state.phase old.client waiting waits.requested in
      subst IsWaitingPhase (sym is) tt

  withdrawn_by : EndsBy (Withdraws old client) WithdrawStep old waiting
  withdrawn_by = record { ends = λ sends s queue step same. record { waits = waits; step = step; client_is = refl; queue_is = same }; step = withdraw_ends old.state }

  pub given_up_to_nobody : (state state' : State) (at : Option ℕ) (queue : List Queued) (sends : List Message) (marks : List Mark) → record { state = state; client = at; queue = queue } ≡ old → WithdrawStep state sends state'
      → (old.queue ≡ []) ⊎ (greatest_number ≤ old.state.highest) → marks ≡ Withdrawn waiting ∷ [] → CancelTurn old client sends marks (record { state = state'; client = None; queue = queue })
  given_up_to_nobody state state' at queue sends marks is step nobody marks-are =
      inr (ended_to_nobody (Withdraws old client) Withdrawn WithdrawStep old waiting withdrawn_by state state' at queue sends marks is step nobody marks-are)

  to_next : (result : Result Outcome CancelError) (new : Resource) (next : Queued) (before : List Mark) → Once (clients_of old) → before ≡ Withdrawn waiting ∷ []
      → MatchResult result (λ o. IsHandedOver (WithdrawStep old.state) old next o.sends.items before o.marks.items new × IsConsistent new.state) (λ fault. (fault ≡ Memory) × (new ≡ old))
      → MatchResult result (λ o. EndTurn (Withdraws old client) Withdrawn old o.sends.items o.marks.items new × IsConsistent new.state) (λ fault. IsCancelRefusal old client fault × (new ≡ old))
  to_next result new next before once is =
      ended_to_next (Withdraws old client) Withdrawn WithdrawStep old waiting withdrawn_by result new next before (λ fault. fault ≡ Memory) (IsCancelRefusal old client) once is
      (λ fault memory. subst (λ (f : CancelError). IsCancelRefusal old client f) (sym memory) (inl (waiting, waits)))

  pub given_up_to_next : (result : Result Outcome CancelError) (new : Resource) (next : Queued) (before : List Mark) → Once (clients_of old) → before ≡ Withdrawn waiting ∷ []
      → MatchResult result (λ o. IsHandedOver (WithdrawStep old.state) old next o.sends.items before o.marks.items new × IsConsistent new.state) (λ fault. (fault ≡ Memory) × (new ≡ old))
      → MatchResult result (λ o. CancelTurn old client o.sends.items o.marks.items new × IsConsistent new.state) (λ fault. IsCancelRefusal old client fault × (new ≡ old))
  given_up_to_next (Ok o) new next before once is ended =
      let did = to_next (Ok o) new next before once is ended in
      (inr did.0, did.1)
  given_up_to_next (Err fault) new next before once is ended = to_next (Err fault) new next before once is ended

-- ---- A client that is queued

module _ (old : Resource) (client : ℕ) (waits_not : (entry : Entry) → Waits old client entry → ⊥) where
  -- it leaves the queue
  pub leaves_queue : (queue : List Queued) (sends : List Message) (marks : List Mark) (new : Resource) → Once (clients_of old) → TakesOut old.queue client true queue → sends ≡ [] → marks ≡ [] → new ≡ record old { queue = queue } → CancelTurn old client sends marks new
  leaves_queue queue sends marks new once takes none nothing is =
      let (before, gone, after, client-is, was, left) = takes in
      inl (record {
        before = before;
        gone = gone;
        after = after;
        client_is = client-is;
        queue_was = was;
        not_before = λ any. taken_apart_before before gone after (subst (λ (qs : List Queued). Once (map (λ q. q.client) qs)) was (leaves_once old.client old.queue once))
            (subst (λ (c : ℕ). Any (λ q. q.client ≡ c) before) (sym client-is) any);
        waits_not = waits_not;
        sends_are = none;
        marks_are = nothing;
        new_is = is ∙ ap (λ (qs : List Queued). record old { queue = qs }) left;
      })

  -- or it is not queued, so that it is refused
  pub not_kept : (Any (λ q. q.client ≡ client) old.queue → ⊥) → IsCancelRefusal old client NotWaiting
  not_kept none kept = elim kept [ inl waits ↦ waits_not waits.0 waits.1 | inr queued ↦ none queued ]
