use Rattle.std.proofs.Common.{◌≡◌, ◌↔◌, ◌<◌, ℕ, ◌+◌, List, ◌⊎◌, Bool, false, Contains, length, refl, ap, sym, subst, arith, rules}
use Rattle.std.specs.Prelude.{IsTrue, IfSome, IsNone}
use Rattle.ra_stamp.specs.declared.entry.Entry.{Entry}
use Rattle.ra_stamp.specs.declared.message.Message.{Message}
use Rattle.ra_stamp.specs.NodeId.{IsNodeNumber}
use Rattle.ra_node.specs.Node.{NodeState, resource_at}
use Rattle.ra_node.specs.Resource.{Holds, IsKeptWaiting}
use Rattle.ra_node.specs.Turns.{MayAsk}
use Rattle.ra_world.specs.declared.step.Step.{Step}
use Rattle.ra_world.specs.declared.step.Step.TheVariants.{Ask, Leave, Cancel, Forget, Deliver, Lose, Repeat}
use Rattle.ra_world.specs.Run.{IsRun, GoesOn}
use Rattle.ra_world.specs.World.{WorldState}
use Rattle.ra_world.specs.Keeping.{nodes_of}
use Rattle.ra_world.proofs.Worlds.{accepted_at, accepted_there, accepted_message, refused_above}
use Rattle.ra_world.proofs.GoingOn.{ask_goes_on, leave_goes_on, cancel_goes_on}
use Rattle.ra_world.proofs.WorldLaws.{laws_below, kept_runs_go_on, deliver_allowed, forget_allowed, lose_allowed, repeat_allowed}
use Rattle.ra_world.proofs.world.WorldOf.accepts.Goals as goal

-- ---- An ask

pub returns-in-Some-clause-value : goal.returns-in-Some-clause-value
returns-in-Some-clause-value g c =
    let w = c.self.inside in
    let k = c.self.invariant in
    let ask = c.in-Ask in
    let step = Ask ask.node ask.client ask.name ask.mode in
    let law = ask_goes_on laws_below (length w.nodes.items) w.start w.kept.log.moves (nodes_of w.nodes.items) k.count k.run k.ends ask.node ask.client ask.name ask.mode in
    let within : c.in-Some.place < length w.nodes.items = omega (arith, c.in-Some.ensures.some.1, ap length c.deref.ensures.value) in
    subst (λ (s : WorldState). IsTrue c.is_ok.result ↔ GoesOn s.count s.start s.moves c.args.step.now) c.self.view_is
    (subst (λ (s : Step). IsTrue c.is_ok.result ↔ GoesOn (length w.nodes.items) w.start w.kept.log.moves s) (sym ask.is)
    (accepted_at w.start w.nodes.items w.kept.log.moves step c.in-Some.place ask.node c.index.result.now
    (λ (n : NodeState). MayAsk (resource_at n ask.name) ask.client) c.is_ok.result
    law c.in-Some.ensures.some.0 within c.index.ensures
    (subst (λ (b : Bool). IsTrue b ↔ MayAsk (resource_at c.index.result.now ask.name) ask.client) (sym c.is_ok.ensures.value) c.may_ask.ensures.told.allowed)))

pub returns-in-None-clause-value : goal.returns-in-None-clause-value
returns-in-None-clause-value g c =
    let w = c.self.inside in
    let k = c.self.invariant in
    let ask = c.in-Ask in
    let step = Ask ask.node ask.client ask.name ask.mode in
    let law = ask_goes_on laws_below (length w.nodes.items) w.start w.kept.log.moves (nodes_of w.nodes.items) k.count k.run k.ends ask.node ask.client ask.name ask.mode in
    let above : length w.nodes.items < ask.node = omega (arith, c.in-None.ensures.none.0 refl, ap length c.deref.ensures.value) in
    subst (λ (s : WorldState). IsTrue false ↔ GoesOn s.count s.start s.moves c.args.step.now) c.self.view_is
    (subst (λ (s : Step). IsTrue false ↔ GoesOn (length w.nodes.items) w.start w.kept.log.moves s) (sym ask.is)
    (refused_above (length w.nodes.items) w.start w.kept.log.moves step ask.node _ law above))

-- ---- A leave

pub returns-in-Some-place_of-clause-value : goal.returns-in-Some-place_of-clause-value
returns-in-Some-place_of-clause-value g c =
    let w = c.self.inside in
    let k = c.self.invariant in
    let leave = c.in-Leave in
    let step = Leave leave.node leave.client leave.name in
    let law = leave_goes_on laws_below (length w.nodes.items) w.start w.kept.log.moves (nodes_of w.nodes.items) k.count k.run k.ends leave.node leave.client leave.name in
    let within : c.in-Some-place_of.place < length w.nodes.items = omega (arith, c.in-Some-place_of.ensures.some.1, ap length c.deref-in-Leave.ensures.value) in
    subst (λ (s : WorldState). IsTrue c.is_held_by.result ↔ GoesOn s.count s.start s.moves c.args.step.now) c.self.view_is
    (subst (λ (s : Step). IsTrue c.is_held_by.result ↔ GoesOn (length w.nodes.items) w.start w.kept.log.moves s) (sym leave.is)
    (accepted_at w.start w.nodes.items w.kept.log.moves step c.in-Some-place_of.place leave.node c.index-in-Some-place_of.result.now
    (λ (n : NodeState). (entry : Entry) × Holds (resource_at n leave.name) leave.client entry) c.is_held_by.result
    law c.in-Some-place_of.ensures.some.0 within c.index-in-Some-place_of.ensures c.is_held_by.ensures.held))

pub returns-in-None-place_of-clause-value : goal.returns-in-None-place_of-clause-value
returns-in-None-place_of-clause-value g c =
    let w = c.self.inside in
    let k = c.self.invariant in
    let leave = c.in-Leave in
    let step = Leave leave.node leave.client leave.name in
    let law = leave_goes_on laws_below (length w.nodes.items) w.start w.kept.log.moves (nodes_of w.nodes.items) k.count k.run k.ends leave.node leave.client leave.name in
    let above : length w.nodes.items < leave.node = omega (arith, c.in-None-place_of.ensures.none.0 refl, ap length c.deref-in-Leave.ensures.value) in
    subst (λ (s : WorldState). IsTrue false ↔ GoesOn s.count s.start s.moves c.args.step.now) c.self.view_is
    (subst (λ (s : Step). IsTrue false ↔ GoesOn (length w.nodes.items) w.start w.kept.log.moves s) (sym leave.is)
    (refused_above (length w.nodes.items) w.start w.kept.log.moves step leave.node _ law above))

-- ---- A cancel

pub returns-in-Some-place_of-2-clause-value : goal.returns-in-Some-place_of-2-clause-value
returns-in-Some-place_of-2-clause-value g c =
    let w = c.self.inside in
    let k = c.self.invariant in
    let cancel = c.in-Cancel in
    let step = Cancel cancel.node cancel.client cancel.name in
    let law = cancel_goes_on laws_below (length w.nodes.items) w.start w.kept.log.moves (nodes_of w.nodes.items) k.count k.run k.ends cancel.node cancel.client cancel.name in
    let within : c.in-Some-place_of-2.place < length w.nodes.items = omega (arith, c.in-Some-place_of-2.ensures.some.1, ap length c.deref-in-Cancel.ensures.value) in
    subst (λ (s : WorldState). IsTrue c.is_kept_waiting.result ↔ GoesOn s.count s.start s.moves c.args.step.now) c.self.view_is
    (subst (λ (s : Step). IsTrue c.is_kept_waiting.result ↔ GoesOn (length w.nodes.items) w.start w.kept.log.moves s) (sym cancel.is)
    (accepted_at w.start w.nodes.items w.kept.log.moves step c.in-Some-place_of-2.place cancel.node c.index-in-Some-place_of-2.result.now
    (λ (n : NodeState). IsKeptWaiting (resource_at n cancel.name) cancel.client) c.is_kept_waiting.result
    law c.in-Some-place_of-2.ensures.some.0 within c.index-in-Some-place_of-2.ensures c.is_kept_waiting.ensures.kept))

pub returns-in-None-place_of-2-clause-value : goal.returns-in-None-place_of-2-clause-value
returns-in-None-place_of-2-clause-value g c =
    let w = c.self.inside in
    let k = c.self.invariant in
    let cancel = c.in-Cancel in
    let step = Cancel cancel.node cancel.client cancel.name in
    let law = cancel_goes_on laws_below (length w.nodes.items) w.start w.kept.log.moves (nodes_of w.nodes.items) k.count k.run k.ends cancel.node cancel.client cancel.name in
    let above : length w.nodes.items < cancel.node = omega (arith, c.in-None-place_of-2.ensures.none.0 refl, ap length c.deref-in-Cancel.ensures.value) in
    subst (λ (s : WorldState). IsTrue false ↔ GoesOn s.count s.start s.moves c.args.step.now) c.self.view_is
    (subst (λ (s : Step). IsTrue false ↔ GoesOn (length w.nodes.items) w.start w.kept.log.moves s) (sym cancel.is)
    (refused_above (length w.nodes.items) w.start w.kept.log.moves step cancel.node _ law above))

-- ---- To forget

pub returns-in-Forget-clause-value : goal.returns-in-Forget-clause-value
returns-in-Forget-clause-value g c =
    let w = c.self.inside in
    let k = c.self.invariant in
    let forget = c.in-Forget in
    let found = c.place_of-in-Forget.result in
    let lent = c.deref-in-Forget.ensures.value in
    subst (λ (s : WorldState). IsTrue c.is_some.result ↔ GoesOn s.count s.start s.moves c.args.step.now) c.self.view_is
    (subst (λ (s : Step). IsTrue c.is_some.result ↔ GoesOn (length w.nodes.items) w.start w.kept.log.moves s) (sym forget.is)
    (accepted_there (length w.nodes.items) w.start w.kept.log.moves (Forget forget.node) forget.node found c.is_some.result
    (forget_allowed (length w.nodes.items) w.start w.kept.log.moves k.count k.run forget.node)
    (subst (λ (ns : List NodeState). IfSome found (λ place. (place + 1 ≡ forget.node) × (place < length ns))) lent c.place_of-in-Forget.ensures.some)
    (subst (λ (ns : List NodeState). IsNone found ↔ (length ns < forget.node)) lent c.place_of-in-Forget.ensures.none)
    c.is_some.ensures))

-- ---- A message

pub returns-in-Deliver-clause-value : goal.returns-in-Deliver-clause-value
returns-in-Deliver-clause-value g c =
    let w = c.self.inside in
    let k = c.self.invariant in
    let some : (m : Message) × ((c.args.step.now ≡ Deliver m) ⊎ ((c.args.step.now ≡ Lose m) ⊎ (c.args.step.now ≡ Repeat m))) × (IsTrue c.contains.result ↔ Contains w.kept.under_way.items m) =
    search rules in
    let m = some.0 in
    subst (λ (s : WorldState). IsTrue c.contains.result ↔ GoesOn s.count s.start s.moves c.args.step.now) c.self.view_is
    (accepted_message (length w.nodes.items) w.start w.kept.log.moves w.kept.under_way.items c.args.step.now m c.contains.result
    (deliver_allowed (length w.nodes.items) w.start w.kept.log.moves k.count k.run m)
    (lose_allowed (length w.nodes.items) w.start w.kept.log.moves k.count k.run m)
    (repeat_allowed (length w.nodes.items) w.start w.kept.log.moves k.count k.run m)
    (kept_runs_go_on.under_way w.start w.nodes.items w.kept.under_way.items w.kept.log.moves m k)
    some.2 some.1)

-- ---- Each of these

pub returns-in-Some-clause-run : goal.returns-in-Some-clause-run
returns-in-Some-clause-run g c = subst (λ (s : WorldState). IsRun s.count s.start s.moves) c.self.view_is c.self.invariant.run

pub returns-in-Some-clause-count : goal.returns-in-Some-clause-count
returns-in-Some-clause-count g c = subst (λ (s : WorldState). IsNodeNumber s.count) c.self.view_is c.self.invariant.count

pub returns-in-None-clause-run : goal.returns-in-None-clause-run
returns-in-None-clause-run g c = subst (λ (s : WorldState). IsRun s.count s.start s.moves) c.self.view_is c.self.invariant.run

pub returns-in-None-clause-count : goal.returns-in-None-clause-count
returns-in-None-clause-count g c = subst (λ (s : WorldState). IsNodeNumber s.count) c.self.view_is c.self.invariant.count

pub returns-in-Some-place_of-clause-run : goal.returns-in-Some-place_of-clause-run
returns-in-Some-place_of-clause-run g c = subst (λ (s : WorldState). IsRun s.count s.start s.moves) c.self.view_is c.self.invariant.run

pub returns-in-Some-place_of-clause-count : goal.returns-in-Some-place_of-clause-count
returns-in-Some-place_of-clause-count g c = subst (λ (s : WorldState). IsNodeNumber s.count) c.self.view_is c.self.invariant.count

pub returns-in-None-place_of-clause-run : goal.returns-in-None-place_of-clause-run
returns-in-None-place_of-clause-run g c = subst (λ (s : WorldState). IsRun s.count s.start s.moves) c.self.view_is c.self.invariant.run

pub returns-in-None-place_of-clause-count : goal.returns-in-None-place_of-clause-count
returns-in-None-place_of-clause-count g c = subst (λ (s : WorldState). IsNodeNumber s.count) c.self.view_is c.self.invariant.count

pub returns-in-Some-place_of-2-clause-run : goal.returns-in-Some-place_of-2-clause-run
returns-in-Some-place_of-2-clause-run g c = subst (λ (s : WorldState). IsRun s.count s.start s.moves) c.self.view_is c.self.invariant.run

pub returns-in-Some-place_of-2-clause-count : goal.returns-in-Some-place_of-2-clause-count
returns-in-Some-place_of-2-clause-count g c = subst (λ (s : WorldState). IsNodeNumber s.count) c.self.view_is c.self.invariant.count

pub returns-in-None-place_of-2-clause-run : goal.returns-in-None-place_of-2-clause-run
returns-in-None-place_of-2-clause-run g c = subst (λ (s : WorldState). IsRun s.count s.start s.moves) c.self.view_is c.self.invariant.run

pub returns-in-None-place_of-2-clause-count : goal.returns-in-None-place_of-2-clause-count
returns-in-None-place_of-2-clause-count g c = subst (λ (s : WorldState). IsNodeNumber s.count) c.self.view_is c.self.invariant.count

pub returns-in-Forget-clause-run : goal.returns-in-Forget-clause-run
returns-in-Forget-clause-run g c = subst (λ (s : WorldState). IsRun s.count s.start s.moves) c.self.view_is c.self.invariant.run

pub returns-in-Forget-clause-count : goal.returns-in-Forget-clause-count
returns-in-Forget-clause-count g c = subst (λ (s : WorldState). IsNodeNumber s.count) c.self.view_is c.self.invariant.count

pub returns-in-Deliver-clause-run : goal.returns-in-Deliver-clause-run
returns-in-Deliver-clause-run g c = subst (λ (s : WorldState). IsRun s.count s.start s.moves) c.self.view_is c.self.invariant.run

pub returns-in-Deliver-clause-count : goal.returns-in-Deliver-clause-count
returns-in-Deliver-clause-count g c = subst (λ (s : WorldState). IsNodeNumber s.count) c.self.view_is c.self.invariant.count

pub index-requires : goal.index-requires
index-requires g c = subst (λ (n : ℕ). c.in-Some.place < n) c.deref.ensures.len c.in-Some.ensures.some.1

pub index-requires-in-Some-place_of : goal.index-requires-in-Some-place_of
index-requires-in-Some-place_of g c = subst (λ (n : ℕ). c.in-Some-place_of.place < n) c.deref-in-Leave.ensures.len c.in-Some-place_of.ensures.some.1

pub index-requires-in-Some-place_of-2 : goal.index-requires-in-Some-place_of-2
index-requires-in-Some-place_of-2 g c = subst (λ (n : ℕ). c.in-Some-place_of-2.place < n) c.deref-in-Cancel.ensures.len c.in-Some-place_of-2.ensures.some.1
