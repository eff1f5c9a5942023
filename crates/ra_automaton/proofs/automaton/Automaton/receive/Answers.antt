use Rattle.std.proofs.Common.{Ok, Err, refl, subst}
use Rattle.ra_automaton.specs.declared.error.ReceiveError.TheVariants.{Memory}
use Rattle.ra_automaton.specs.State.{State, IsForNode}
use Rattle.ra_automaton.proofs.Refusals.{received_tells}
use Rattle.ra_automaton.proofs.automaton.Automaton.receive.Goals as goal

pub returns-in-Ok-clause-address : goal.returns-in-Ok-clause-address
returns-in-Ok-clause-address c =
    let is : IsForNode c.args.self.now.me c.args.self.now.nodes c.args.message.now = subst (λ (s : State). IsForNode s.me s.nodes c.args.message.now) c.self.view_is (c.in_ok-check_address.ensures.addressed.0 refl) in
    (received_tells c.args.self.now.me c.args.self.now.nodes c.args.message.now (Ok c.in-Ok.reaction) (λ _. Unit {0}) (Unit {0}) is tt).address

pub returns-in-Err-clause-address : goal.returns-in-Err-clause-address
returns-in-Err-clause-address c =
    let is : IsForNode c.args.self.now.me c.args.self.now.nodes c.args.message.now = subst (λ (s : State). IsForNode s.me s.nodes c.args.message.now) c.self.view_is (c.in_ok-check_address.ensures.addressed.0 refl) in
    (received_tells c.args.self.now.me c.args.self.now.nodes c.args.message.now (Err Memory) (λ _. Unit {0}) (Unit {0}) is (refl, tt)).address
