use Rattle.std.proofs.Common.{◌≡◌, ◌+◌, ◌<◌, [], Option, length, sym, ◌∙◌, subst, arith, inl, inr}
use Rattle.std.specs.Option.{IfSome}
use Rattle.ra_schedule.specs.declared.choice.random_state.RandomState.{RandomState}
use Rattle.ra_schedule.specs.Enabled.{IsFlag, AreNodeClients}
use Rattle.ra_schedule.specs.PolicyState.{IsRandomStateElsewhere}
use Rattle.ra_schedule.proofs.NodesOfClients.{has_node}
use Rattle.ra_schedule.proofs.choice.random_state.note_step_in.Goals as goal
use Rattle.ra_schedule.proofs.choice.random_state.note_step_in.Goals.{In-Some}

-- what chance knew before
known : (c : In-Some) → IsRandomStateElsewhere c.args.step.now c.args.marks.now c.args.script.now c.args.world.now.moves c.in-Some.random
known c =
    subst (λ (o : Option RandomState). IfSome o (IsRandomStateElsewhere c.args.step.now c.args.marks.now c.args.script.now c.args.world.now.moves)) c.in-Some.is
    c.requires.random

pub look_at_all-requires-clause-counted : goal.look_at_all-requires-clause-counted
look_at_all-requires-clause-counted c = (known (goal.at.look_at_all-requires-clause-counted c).In-Some).counted

pub returns-clause-random : goal.returns-clause-random
returns-clause-random c =
    let before = known (goal.at.returns-clause-random c).In-Some in
    let script = c.args.script.now in
    let moves = c.args.world.now.moves in
    let old = c.in-Some.random.enabled.flags.items in
    let middle = c.look_at_all.new.self.flags.items in
    let new = c.look_at_entered.new.self.flags.items in
    let members = c.members_at-members.result.now in
    let node_clients : AreNodeClients script c.deref.result.now = subst (AreNodeClients script) (sym c.deref.ensures.value) before.node_clients in
    let first = c.look_at_all.ensures.counted in
    let last = c.look_at_entered.ensures.counted in
    record {
      node_clients = before.node_clients;
      flags = record {
        length_is = last.one_each;
        each = λ k d within.
            let had : k < length old = omega (arith, within, last.one_each, before.counted.one_each) in
            elim (c.look_at_entered.ensures.flags k d (omega (arith, within, last.one_each, first.one_each))) [
              | inl right ↦ right
              | inr silent ↦
                  subst (IsFlag script moves (k + 1)) (sym silent.0)
                  (elim (c.look_at_all.ensures.flags k d had) [
                    | inl right ↦ right
                    | inr absent ↦
                        subst (IsFlag script moves (k + 1)) (sym absent.0)
                        (before.flags k d had
                        (λ here.
                        let (node, is) = has_node script k (omega (arith, had, before.counted.one_each)) in
                        absent.1 (c.members_at-members.ensures (k + 1) node (sym here ∙ is) (node_clients (k + 1) node [] is)))
                        silent.1)
                  ])
            ];
      };
      counted = last;
    }
