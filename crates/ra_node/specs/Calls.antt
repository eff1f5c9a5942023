-- What the calls of a node answer. Each part is stated once: for a node and for one of its resources, and for a call
-- and the form of it that is given an outcome.
use Rattle.std.specs.Prelude.{◌≡◌, ◌↔◌, ℕ, List, Result, IsOk, IfOk, OnErr, IsErrOf, IsOkUnless}
use Rattle.ra_stamp.specs.declared.entry.Entry.{Entry}
use Rattle.ra_node.specs.declared.error.AskError.{AskError}
use Rattle.ra_node.specs.declared.error.AskError.TheVariants as asking
use Rattle.ra_node.specs.declared.error.CancelError.{CancelError}
use Rattle.ra_node.specs.declared.error.CancelError.TheVariants as cancelling
use Rattle.ra_node.specs.declared.error.LeaveError.{LeaveError}
use Rattle.ra_node.specs.declared.error.LeaveError.TheVariants as leaving
use Rattle.ra_node.specs.declared.outcome.Outcome.{Outcome}
use Rattle.ra_node.specs.Resource.{Resource, Holds, IsKeptWaiting}
use Rattle.ra_node.specs.Turns.{MayAsk}
use Rattle.ra_node.specs.Faults.{IsAskRefusal, IsLeaveRefusal, IsCancelRefusal}
use Rattle.ra_node.specs.Node.{NodeState, resource_at}
use Rattle.ra_node.specs.Events.{LeaveEvent, CancelEvent}

-- whether a client may ask: `Busy` and `Exhausted` are answered exactly for their causes, and `Memory` never
pub record AnswersMayAsk (r : Resource) (client : ℕ) (answer : Result (Unit {0}) AskError) : Type 0 where
  pub allowed : IsOk answer ↔ MayAsk r client
  pub busy : IsErrOf answer asking.Busy ↔ IsAskRefusal r client asking.Busy
  pub exhausted : IsErrOf answer asking.Exhausted ↔ IsAskRefusal r client asking.Exhausted
  pub no_memory : IsErrOf answer asking.Memory → ⊥

-- the client leaves, and `NotHeld` is answered exactly if it does not hold; `Memory` is the only other error, and the
-- node is as before after an error
pub record AnswersLeave (old : NodeState) (client : ℕ) (name : List ℕ) (answer : Result Outcome LeaveError)
    (new : NodeState)
    : Type 0 where
  pub ok : IfOk answer (λ outcome. LeaveEvent old client name outcome.sends.items outcome.marks.items new)
  pub not_held : IsErrOf answer leaving.NotHeld ↔ IsLeaveRefusal (resource_at old name) client leaving.NotHeld
  pub allowed : IsOkUnless answer leaving.Memory ↔ ((entry : Entry) × Holds (resource_at old name) client entry)
  pub err : OnErr answer (new ≡ old)

-- the client gives up, and `NotWaiting` is answered exactly if it neither waits nor is queued; `Memory` is the only
-- other error, and the node is as before after an error
pub record AnswersCancel (old : NodeState) (client : ℕ) (name : List ℕ) (answer : Result Outcome CancelError)
    (new : NodeState)
    : Type 0 where
  pub ok : IfOk answer (λ outcome. CancelEvent old client name outcome.sends.items outcome.marks.items new)
  pub not_waiting : IsErrOf answer cancelling.NotWaiting
      ↔ IsCancelRefusal (resource_at old name) client cancelling.NotWaiting
  pub allowed : IsOkUnless answer cancelling.Memory ↔ IsKeptWaiting (resource_at old name) client
  pub err : OnErr answer (new ≡ old)
