-- What the refusals of a node tell.
use Rattle.std.proofs.Common.{◌≡◌, ◌↔◌, ℕ, ◌<◌, List, Result, Ok, Err, refl, sym, ap, ◌∙◌, subst, arith, inl, inr}
use Rattle.std.specs.Prelude.{MatchResult, IsErrOf, IsOkUnless}
use Rattle.std.proofs.lemmas.Bool.{true≢false}
use Rattle.ra_stamp.specs.declared.entry.Entry.{Entry}
use Rattle.ra_stamp.specs.declared.entry.Mark.{Mark}
use Rattle.ra_stamp.specs.declared.message.Message.{Message}
use Rattle.ra_stamp.specs.declared.mode.Mode.{Mode}
use Rattle.ra_automaton.specs.State.{IsConsistent}
use Rattle.ra_automaton.specs.Steps.{greatest_number}
use Rattle.ra_node.specs.declared.error.AskError.{AskError}
use Rattle.ra_node.specs.declared.error.AskError.TheVariants as asking
use Rattle.ra_node.specs.declared.error.LeaveError.{LeaveError}
use Rattle.ra_node.specs.declared.error.LeaveError.TheVariants as leaving
use Rattle.ra_node.specs.declared.outcome.Outcome.{Outcome}
use Rattle.ra_node.specs.declared.error.CancelError.{CancelError}
use Rattle.ra_node.specs.declared.error.CancelError.TheVariants as cancelling
use Rattle.ra_node.specs.Faults.{IsAskRefusal, IsLeaveRefusal, IsCancelRefusal}
use Rattle.ra_node.specs.Resource.{Resource, unmet, IsBusy, Holds, IsKeptWaiting}
use Rattle.ra_node.specs.Turns.{MayAsk, AskTurn, LeaveTurn, CancelTurn}
use Rattle.ra_node.specs.Node.{NodeState, resource_at}
use Rattle.ra_node.specs.Events.{AskEvent}
use Rattle.ra_node.specs.Calls.{AnswersMayAsk}
use Rattle.ra_node.proofs.Possible.{kept_waiting_before}

-- ---- A client asks

-- what the end of an ask tells
pub record AskTells {X : Type 0} (result : Result X AskError) (r : Resource) (client : ℕ) : Type 0 where
  pub busy : IsErrOf result asking.Busy ↔ IsBusy r client
  pub exhausted : IsErrOf result asking.Exhausted ↔ ((IsBusy r client → ⊥) × (r.state.highest ≡ greatest_number))
  pub allowed : IsOkUnless result asking.Memory ↔ MayAsk r client

busy_apart : asking.Memory ≡ asking.Busy → ⊥
busy_apart e = cc

exhausted_apart : asking.Memory ≡ asking.Exhausted → ⊥
exhausted_apart e = cc

busy_is_not_exhausted : asking.Busy ≡ asking.Exhausted → ⊥
busy_is_not_exhausted e = cc

same_error : {X E : Type 0} (e f : E) → IsErrOf {T = X} (Err e) f → e ≡ f
same_error e f h = cc

ok_apart : {X E : Type 0} (x : X) (e : E) → Ok x ≡ Err e → ⊥
ok_apart x e h = cc

-- the greatest number is not below itself
none_left : (r : Resource) (client : ℕ) → MayAsk r client → r.state.highest ≡ greatest_number → ⊥
none_left r client may is = omega (arith, may.number_left, is)

module _ {X : Type 0} (r : Resource) (client : ℕ) where
  -- a client that may ask has asked, or memory ran out
  ok_tells : (x : X) → MayAsk r client → AskTells (Ok x) r client
  ok_tells x may =
      record {
        busy = (λ e. absurd (ok_apart x asking.Busy e), λ busy. absurd (may.not_busy busy));
        exhausted = (λ e. absurd (ok_apart x asking.Exhausted e), λ h. absurd (none_left r client may h.1));
        allowed = (λ _. may, λ _. tt);
      }

  pub refusal_tells : (fault : AskError) → IsAskRefusal r client fault → AskTells {X = X} (Err fault) r client
  refusal_tells asking.Busy busy =
      record {
        busy = (λ _. busy, λ _. refl);
        exhausted = (λ e. absurd (busy_is_not_exhausted (same_error asking.Busy asking.Exhausted e)), λ h. absurd (h.0 busy));
        allowed = (λ e. absurd (busy_apart (sym e)), λ may. absurd (may.not_busy busy));
      }
  refusal_tells asking.Exhausted none =
      record {
        busy = (λ e. absurd (busy_is_not_exhausted (sym (same_error asking.Exhausted asking.Busy e))), λ busy. absurd (none.0 busy));
        exhausted = (λ _. none, λ _. refl);
        allowed = (λ e. absurd (exhausted_apart (sym e)), λ may. absurd (none_left r client may none.1));
      }
  refusal_tells asking.Memory may =
      record {
        busy = (λ e. absurd (busy_apart (same_error asking.Memory asking.Busy e)), λ busy. absurd (may.not_busy busy));
        exhausted = (λ e. absurd (exhausted_apart (same_error asking.Memory asking.Exhausted e)), λ h. absurd (none_left r client may h.1));
        allowed = (λ _. may, λ _. refl);
      }

-- what the end of an ask at a slot tells
pub turn_tells : (result : Result Outcome AskError) (old : Resource) (client : ℕ) (mode : Mode) (new : Resource) (Same : Type 0)
    → MatchResult result (λ o. AskTurn old client mode o.sends.items o.marks.items new × IsConsistent new.state) (λ fault. IsAskRefusal old client fault × Same) → AskTells result old client
turn_tells (Ok x) old client mode new Same ended = ok_tells old client x ended.0.0
turn_tells (Err fault) old client mode new Same ended = refusal_tells old client fault ended.0

-- and at a node
pub event_tells : (result : Result Outcome AskError) (old now new : NodeState) → old ≡ now → (name : List ℕ) (client : ℕ) (mode : Mode) (Same : Type 0)
    → MatchResult result (λ o. AskEvent old client name mode o.sends.items o.marks.items new) (λ fault. IsAskRefusal (resource_at old name) client fault × Same) → AskTells result (resource_at now name) client
event_tells (Ok x) old now new is name client mode Same ended =
    subst (λ (n : NodeState). AskTells {X = Outcome} (Ok x) (resource_at n name) client) is (ok_tells (resource_at old name) client x ended.turn.0)
event_tells (Err fault) old now new is name client mode Same ended =
    subst (λ (n : NodeState). AskTells {X = Outcome} (Err fault) (resource_at n name) client) is (refusal_tells (resource_at old name) client fault ended.0)

-- why a client may not ask
pub ask_refusal : (fault : AskError) (r : Resource) (client : ℕ) → AnswersMayAsk r client (Err fault) → IsAskRefusal r client fault
ask_refusal asking.Busy r client tells = tells.busy.0 refl
ask_refusal asking.Exhausted r client tells = tells.exhausted.0 refl
ask_refusal asking.Memory r client tells = absurd (tells.no_memory refl)

module _ (r : Resource) (client : ℕ) where
  pub busy_tells : IsBusy r client → AnswersMayAsk r client (Err asking.Busy)
  busy_tells busy =
      record {
        allowed = (λ e. absurd (true≢false (sym e)), λ may. absurd (may.not_busy busy));
        busy = (λ _. busy, λ _. refl);
        exhausted = (λ e. absurd (busy_is_not_exhausted (same_error asking.Busy asking.Exhausted e)), λ h. absurd (h.0 busy));
        no_memory = λ e. busy_apart (sym (same_error asking.Busy asking.Memory e));
      }

  -- no number is left
  pub exhausted_tells : (IsBusy r client → ⊥) → r.state.highest ≡ greatest_number → AnswersMayAsk r client (Err asking.Exhausted)
  exhausted_tells free highest =
      record {
        allowed = (λ e. absurd (true≢false (sym e)), λ may. absurd (none_left r client may highest));
        busy = (λ e. absurd (busy_is_not_exhausted (sym (same_error asking.Exhausted asking.Busy e))), λ busy. absurd (free busy));
        exhausted = (λ _. (free, highest), λ _. refl);
        no_memory = λ e. exhausted_apart (sym (same_error asking.Exhausted asking.Memory e));
      }

  -- one is left
  pub allowed_tells : MayAsk r client → AnswersMayAsk r client (Ok tt)
  allowed_tells may =
      record {
        allowed = (λ _. may, λ _. refl);
        busy = (λ e. absurd (ok_apart tt asking.Busy e), λ busy. absurd (may.not_busy busy));
        exhausted = (λ e. absurd (ok_apart tt asking.Exhausted e), λ h. absurd (none_left r client may h.1));
        no_memory = ok_apart tt asking.Memory;
      }

-- ---- A resource that nothing was about yet

nobody_is_busy : (r : Resource) (me nodes : ℕ) (name : List ℕ) (start client : ℕ) → r ≡ unmet me nodes name start → IsBusy r client → ⊥
nobody_is_busy r me nodes name start client is busy =
    let here = subst (λ (x : Resource). IsBusy x client) is busy in
    absurd (omega (arith, here.1))

module _ (r : Resource) (me nodes : ℕ) (name : List ℕ) (start client : ℕ) (is : r ≡ unmet me nodes name start) where
  pub unmet_is_exhausted : start ≡ greatest_number → AnswersMayAsk r client (Err asking.Exhausted)
  unmet_is_exhausted at = exhausted_tells r client (nobody_is_busy r me nodes name start client is) (ap (λ (x : Resource). x.state.highest) is ∙ at)

  pub unmet_is_free : start < greatest_number → AnswersMayAsk r client (Ok tt)
  unmet_is_free below =
      let highest : r.state.highest ≡ start = ap (λ (x : Resource). x.state.highest) is in
      allowed_tells r client (record { not_busy = nobody_is_busy r me nodes name start client is; number_left = omega (arith, highest, below) })

-- ---- A client leaves

-- what the end of a leave tells
pub record LeaveTells {X : Type 0} (result : Result X LeaveError) (r : Resource) (client : ℕ) : Type 0 where
  pub not_held : IsErrOf result leaving.NotHeld ↔ ((entry : Entry) → Holds r client entry → ⊥)
  pub allowed : IsOkUnless result leaving.Memory ↔ ((entry : Entry) × Holds r client entry)

not_held_apart : leaving.NotHeld ≡ leaving.Memory → ⊥
not_held_apart e = cc

-- a client that leaves held
holds_before : (old : Resource) (client : ℕ) (sends : List Message) (marks : List Mark) (new : Resource) → LeaveTurn old client sends marks new → (entry : Entry) × Holds old client entry
holds_before old client sends marks new (inl to_nobody) = (to_nobody.entry, to_nobody.ends.holds)
holds_before old client sends marks new (inr to_next) = (to_next.entry, to_next.ends.holds)

-- a client leaves if it holds and memory does not run out
pub left_tells : (result : Result Outcome LeaveError) (old : Resource) (client : ℕ) (new : Resource) (Same : Type 0)
    → MatchResult result (λ o. LeaveTurn old client o.sends.items o.marks.items new × IsConsistent new.state) (λ fault. IsLeaveRefusal old client fault × Same) → LeaveTells result old client
left_tells (Ok x) r client new Same ended =
    let holds = holds_before r client x.sends.items x.marks.items new ended.0 in
    record {
      not_held = (λ e. absurd (ok_apart x leaving.NotHeld e), λ none. absurd (none holds.0 holds.1));
      allowed = (λ _. holds, λ _. tt);
    }
left_tells (Err leaving.NotHeld) r client new Same ended =
    record {
      not_held = (λ _. ended.0, λ _. refl);
      allowed = (λ e. absurd (not_held_apart e), λ h. absurd (ended.0 h.0 h.1));
    }
left_tells (Err leaving.Memory) r client new Same ended =
    record {
      not_held = (λ e. absurd (not_held_apart (sym (same_error leaving.Memory leaving.NotHeld e))), λ none. absurd (none ended.0.0 ended.0.1));
      allowed = (λ _. ended.0, λ _. refl);
    }

-- ---- A client gives up

-- what the end of a cancel tells
pub record CancelTells {X : Type 0} (result : Result X CancelError) (r : Resource) (client : ℕ) : Type 0 where
  pub not_waiting : IsErrOf result cancelling.NotWaiting ↔ (IsKeptWaiting r client → ⊥)
  pub allowed : IsOkUnless result cancelling.Memory ↔ IsKeptWaiting r client

not_waiting_apart : cancelling.NotWaiting ≡ cancelling.Memory → ⊥
not_waiting_apart e = cc

-- a client gives up if it waits or is queued and memory does not run out
pub cancelled_tells : (result : Result Outcome CancelError) (old : Resource) (client : ℕ) (new : Resource) (Same : Type 0)
    → MatchResult result (λ o. CancelTurn old client o.sends.items o.marks.items new × IsConsistent new.state) (λ fault. IsCancelRefusal old client fault × Same) → CancelTells result old client
cancelled_tells (Ok x) r client new Same ended =
    let kept = kept_waiting_before r client x.sends.items x.marks.items new ended.0 in
    record {
      not_waiting = (λ e. absurd (ok_apart x cancelling.NotWaiting e), λ none. absurd (none kept));
      allowed = (λ _. kept, λ _. tt);
    }
cancelled_tells (Err cancelling.NotWaiting) r client new Same ended =
    record {
      not_waiting = (λ _. ended.0, λ _. refl);
      allowed = (λ e. absurd (not_waiting_apart e), λ kept. absurd (ended.0 kept));
    }
cancelled_tells (Err cancelling.Memory) r client new Same ended =
    record {
      not_waiting = (λ e. absurd (not_waiting_apart (sym (same_error cancelling.Memory cancelling.NotWaiting e))), λ none. absurd (none ended.0));
      allowed = (λ _. ended.0, λ _. refl);
    }
