-- What the calls of an automaton answer. Each part is stated once, for a call and for the form of it that knows more or
-- is given a list for the messages. Whatever is refused, the state is as before.
use Rattle.std.specs.Prelude.{◌≡◌, ◌≢◌, ◌↔◌, ◌<◌, ◌⊎◌, ℕ, false, IsTrue, Result, IfOk, OnErr, IsErrOf}
use Rattle.ra_stamp.specs.declared.message.Message.{Message}
use Rattle.ra_stamp.specs.declared.mode.Mode.{Mode}
use Rattle.ra_stamp.specs.Message.{from_of, to_of}
use Rattle.ra_automaton.specs.declared.reaction.Reaction.{Reaction}
use Rattle.ra_automaton.specs.declared.error.LeaveError.{LeaveError}
use Rattle.ra_automaton.specs.declared.error.LeaveError.TheVariants.{NotHeld}
use Rattle.ra_automaton.specs.declared.error.ReceiveError.{ReceiveError}
use Rattle.ra_automaton.specs.declared.error.ReceiveError.TheVariants.{WrongNode, Stranger}
use Rattle.ra_automaton.specs.declared.error.WithdrawError.{WithdrawError}
use Rattle.ra_automaton.specs.declared.error.WithdrawError.TheVariants.{NotWaiting}
use Rattle.ra_automaton.specs.State.{State, IsInside, IsWaitingPhase}
use Rattle.ra_automaton.specs.Steps.{RequestStep, ReceiveStep, LetsEnter, LeaveStep, LeaveAndRequestStep}
use Rattle.ra_automaton.specs.Steps.{WithdrawStep, WithdrawAndRequestStep}

-- a request is made
pub record AnswersRequest {E : Type 0} (old : State) (mode : Mode) (answer : Result Reaction E)
    (new : State) : Type 0 where
  pub ok : IfOk answer (λ reaction. RequestStep old mode reaction.sends.items reaction.entered new)
  pub err : OnErr answer (new ≡ old)

-- `WrongNode` is answered exactly if the message is for another node, and otherwise `Stranger` exactly if its sender is
-- this node or above the number of nodes
pub record ChecksAddress {T : Type 0} (me nodes : ℕ) (message : Message) (answer : Result T ReceiveError) : Type 0 where
  pub wrong_node : IsErrOf answer WrongNode ↔ (to_of message ≢ me)
  pub stranger : IsErrOf answer Stranger ↔ ((to_of message ≡ me) × ((from_of message ≡ me) ⊎ (nodes < from_of message)))

-- a message is taken, and the node enters exactly if it is the last REPLY that the node awaits
pub record AnswersReceive {E : Type 0} (old : State) (message : Message) (answer : Result Reaction E) (new : State)
    : Type 0 where
  pub ok : IfOk answer (λ reaction. ReceiveStep old message reaction.sends.items reaction.entered new)
  pub enters : IfOk answer (λ reaction. IsTrue reaction.entered ↔ LetsEnter old message)
  pub err : OnErr answer (new ≡ old)

-- the resource is left, and `NotHeld` is answered exactly if the node is not inside
pub record AnswersLeave (old : State) (answer : Result Reaction LeaveError) (new : State) : Type 0 where
  pub ok : IfOk answer (λ reaction. LeaveStep old reaction.sends.items new × (reaction.entered ≡ false))
  pub not_held : IsErrOf answer NotHeld ↔ (IsInside old.phase → ⊥)
  pub err : OnErr answer (new ≡ old)

-- the resource is left and a request is made, and `NotHeld` is answered exactly if the node is not inside
pub record AnswersLeaveAndRequest (old : State) (mode : Mode) (answer : Result Reaction LeaveError) (new : State)
    : Type 0 where
  pub ok : IfOk answer (λ reaction. LeaveAndRequestStep old mode reaction.sends.items reaction.entered new)
  pub not_held : IsErrOf answer NotHeld ↔ (IsInside old.phase → ⊥)
  pub err : OnErr answer (new ≡ old)

-- the request is withdrawn, and `NotWaiting` is answered exactly if the node does not wait
pub record AnswersWithdraw (old : State) (answer : Result Reaction WithdrawError) (new : State) : Type 0 where
  pub ok : IfOk answer (λ reaction. WithdrawStep old reaction.sends.items new × (reaction.entered ≡ false))
  pub not_waiting : IsErrOf answer NotWaiting ↔ (IsWaitingPhase old.phase → ⊥)
  pub err : OnErr answer (new ≡ old)

-- the request is withdrawn and another one is made, and `NotWaiting` is answered exactly if the node does not wait
pub record AnswersWithdrawAndRequest (old : State) (mode : Mode) (answer : Result Reaction WithdrawError) (new : State)
    : Type 0 where
  pub ok : IfOk answer (λ reaction. WithdrawAndRequestStep old mode reaction.sends.items reaction.entered new)
  pub not_waiting : IsErrOf answer NotWaiting ↔ (IsWaitingPhase old.phase → ⊥)
  pub err : OnErr answer (new ≡ old)
