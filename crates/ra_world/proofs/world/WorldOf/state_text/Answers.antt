use Rattle.std.proofs.Common.{ℕ, List, length, string_bytes, sym, ap, ◌∙◌, subst}
use Rattle.std.specs.Prelude.{IfOk}
use Rattle.std.proofs.lemmas.Result.{IfOk-weaker}
use Rattle.ra_stamp.specs.NodeId.{IsNodeNumber}
use Rattle.ra_node.specs.Node.{NodeState}
use Rattle.ra_world.specs.Keeping.{nodes_of}
use Rattle.ra_world.specs.StateLines.{IsStateText, state_text}
use Rattle.ra_world.specs.World.{WorldState}
use Rattle.ra_world.proofs.StateTexts.{state_here}
use Rattle.ra_table.proofs.History.{same_entries}
use Rattle.ra_world.specs.Run.{IsRun, marks_of}
use Rattle.ra_world.proofs.Outcomes.{has_table}
use Rattle.ra_world.proofs.TableNodes.{table_of_nodes}
use Rattle.ra_world.proofs.WorldLaws.{laws_below}
use Rattle.ra_world.proofs.world.WorldOf.state_text.Goals as goal

pub state_text-requires : goal.state_text-requires
state_text-requires g c = subst (λ (ns : List NodeState). IsNodeNumber (length ns)) (sym c.deref.ensures.value) c.self.invariant.count

pub returns-clause-ok : goal.returns-clause-ok
returns-clause-ok g c =
    let w = c.self.inside in
    subst (λ (s : WorldState). IfOk c.state_text.result (λ t. IsStateText s.count s.start s.moves c.args.names.now c.args.clients.now (string_bytes t))) c.self.view_is
    (IfOk-weaker c.state_text.result _ _
    (λ t is. state_here w.start w.nodes.items w.kept.under_way.items w.kept.log.moves c.args.names.now c.args.clients.now (string_bytes t) c.self.invariant
    (has_table laws_below)
    (λ n start moves nodes table count run ends. table_of_nodes laws_below n start moves count run nodes ends (same_entries (marks_of moves)) table)
    (is ∙ ap (λ (ns : List NodeState). state_text (length ns) c.len-steps.result c.args.names.now (nodes_of ns) w.kept.under_way.items c.args.clients.now) c.deref.ensures.value
    ∙ ap (λ (n : ℕ). state_text (length w.nodes.items) n c.args.names.now (nodes_of w.nodes.items) w.kept.under_way.items c.args.clients.now) c.len-steps.ensures))
    c.state_text.ensures)

pub returns-clause-run : goal.returns-clause-run
returns-clause-run g c = subst (λ (s : WorldState). IsRun s.count s.start s.moves) c.self.view_is c.self.invariant.run

pub returns-clause-count : goal.returns-clause-count
returns-clause-count g c = subst (λ (s : WorldState). IsNodeNumber s.count) c.self.view_is c.self.invariant.count
