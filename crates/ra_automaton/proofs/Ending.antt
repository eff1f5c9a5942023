-- What a leave and a withdrawal have in common: the request ends, and each deferred REPLY goes out.
use Rattle.std.proofs.Common.{◌≡◌, ℕ, List, map, refl, ap, arith}
use Rattle.std.specs.FinMap as finmap
use Rattle.ra_stamp.specs.declared.message.Message.{Message}
use Rattle.ra_stamp.specs.declared.message.Message.TheVariants.{Reply}
use Rattle.ra_automaton.specs.declared.phase.Phase.TheVariants.{Idle}
use Rattle.ra_automaton.specs.State.{State}
use Rattle.ra_automaton.specs.Steps.{LeaveStep, WithdrawStep}

-- the request of a node ends in either way
pub record EndStep (old : State) (sends : List Message) (new : State) : Type 0 where
  pub sends_are : sends
      ≡ map (λ deferred. Reply old.me deferred.0 old.name deferred.1) (finmap.entries old.deferred)
  pub me_is : new.me ≡ old.me
  pub nodes_is : new.nodes ≡ old.nodes
  pub name_is : new.name ≡ old.name
  pub highest_is : new.highest ≡ old.highest
  pub idle : new.phase ≡ Idle
  pub none_deferred : new.deferred ≡ finmap.empty

pub leave_ends : (old : State) (sends : List Message) (new : State) → LeaveStep old sends new → EndStep old sends new
leave_ends old sends new step =
    record {
      sends_are = step.sends_are;
      me_is = ap (λ (s : State). s.me) step.new_is;
      nodes_is = ap (λ (s : State). s.nodes) step.new_is;
      name_is = ap (λ (s : State). s.name) step.new_is;
      highest_is = ap (λ (s : State). s.highest) step.new_is;
      idle = ap (λ (s : State). s.phase) step.new_is;
      none_deferred = ap (λ (s : State). s.deferred) step.new_is;
    }

pub withdraw_ends : (old : State) (sends : List Message) (new : State) → WithdrawStep old sends new → EndStep old sends new
withdraw_ends old sends new step =
    record {
      sends_are = step.sends_are;
      me_is = ap (λ (s : State). s.me) step.new_is;
      nodes_is = ap (λ (s : State). s.nodes) step.new_is;
      name_is = ap (λ (s : State). s.name) step.new_is;
      highest_is = ap (λ (s : State). s.highest) step.new_is;
      idle = ap (λ (s : State). s.phase) step.new_is;
      none_deferred = ap (λ (s : State). s.deferred) step.new_is;
    }
