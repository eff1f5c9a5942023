use Rattle.std.proofs.Common.{rules, ◌≡◌, ◌≢◌, ◌⊎◌, ◌<◌, ℕ, Ok, Err, IsErrOf, refl}
use Rattle.ra_stamp.specs.declared.message.Message.{Message}
use Rattle.ra_stamp.specs.Message.{from_of, to_of}
use Rattle.ra_automaton.specs.declared.error.ReceiveError.TheVariants.{WrongNode, Stranger}
use Rattle.ra_automaton.specs.State.{IsForNode}
use Rattle.ra_automaton.specs.Calls.{ChecksAddress}
use Rattle.ra_automaton.proofs.Refusals.{received_tells}
use Rattle.ra_automaton.proofs.address.check_address.Goals as goal

kinds_apart : IsErrOf {T = Unit {0}} (Err WrongNode) Stranger → ⊥
kinds_apart e = cc

kinds_apart_back : IsErrOf {T = Unit {0}} (Err Stranger) WrongNode → ⊥
kinds_apart_back e = cc

wrong_node_told : (me nodes : ℕ) (message : Message) → to_of message ≢ me → ChecksAddress {T = Unit {0}} me nodes message (Err WrongNode)
wrong_node_told me nodes message apart = record {
  wrong_node = (λ _. apart, λ _. refl);
  stranger = (λ e. absurd (kinds_apart e), λ h. absurd (apart h.0));
}

stranger_told : (me nodes : ℕ) (message : Message) → to_of message ≡ me → (from_of message ≡ me) ⊎ (nodes < from_of message) → ChecksAddress {T = Unit {0}} me nodes message (Err Stranger)
stranger_told me nodes message to from = record {
  wrong_node = (λ e. absurd (kinds_apart_back e), λ apart. absurd (apart to));
  stranger = (λ _. (to, from), λ _. refl);
}

pub returns-then-ne-clause-address : goal.returns-then-ne-clause-address
returns-then-ne-clause-address c =
    let apart : to_of c.args.message.now ≢ c.args.member.node = search rules in
    wrong_node_told c.args.member.node c.args.member.nodes c.args.message.now apart

pub returns-then-eq-clause-address : goal.returns-then-eq-clause-address
returns-then-eq-clause-address c =
    let to : to_of c.args.message.now ≡ c.args.member.node = search rules in
    let from : (from_of c.args.message.now ≡ c.args.member.node) ⊎ (c.args.member.nodes < from_of c.args.message.now) = search rules in
    stranger_told c.args.member.node c.args.member.nodes c.args.message.now to from

pub returns-clause-address : goal.returns-clause-address
returns-clause-address c =
    let is : IsForNode c.args.member.node c.args.member.nodes c.args.message.now = search rules in
    (received_tells c.args.member.node c.args.member.nodes c.args.message.now (Ok tt) (λ _. Unit {0}) (Unit {0}) is tt).address
