use Rattle.std.proofs.Common.{◌≡◌, ◌++◌, ◌∷◌, [], List, Contains, refl, sym, ap, ◌∙◌, subst, inl}
use Rattle.ra_stamp.specs.declared.message.Message.{Message}
use Rattle.ra_stamp.specs.Sequence.{Listed}
use Rattle.ra_world.specs.declared.step.Step.TheVariants.{Repeat}
use Rattle.ra_world.specs.declared.error.StepError.TheVariants.{NotUnderWay}
use Rattle.ra_world.specs.Traffic.{Move}
use Rattle.ra_world.specs.Keeping.{Keeps}
use Rattle.ra_world.proofs.StepTries.{shown, with_cause, short, put_on}
use Rattle.ra_world.proofs.AtPlace.{kept_as, quiet_move, moved_quietly}
use Rattle.ra_world.proofs.WorldLaws.{kept_runs_go_on, repeat_allowed}
use Rattle.ra_world.proofs.world.WorldOf.repeat.Goals as goal

pub returns-in_default-clause-tried : goal.returns-in_default-clause-tried
returns-in_default-clause-tried g c =
    let w = c.self.inside in
    let under = kept_runs_go_on.under_way w.start w.nodes.items w.kept.under_way.items w.kept.log.moves c.args.message.now c.self.invariant in
    let absent : Contains w.kept.under_way.items c.args.message.now → ⊥ = λ there. let some = c.in_default.ensures.found.1 there in absurd cc in
    (c.self.view_is, with_cause w.start w.nodes.items w.kept.log.moves c.args.self.now (Repeat c.args.message.now) NotUnderWay c.self.view_is (λ on. absent (under.0 on)))

pub returns-in_err-make_room-clause-tried : goal.returns-in_err-make_room-clause-tried
returns-in_err-make_room-clause-tried g c =
    let w = c.self.inside in
    let k = c.self.invariant in
    let under = kept_runs_go_on.under_way w.start w.nodes.items w.kept.under_way.items w.kept.log.moves c.args.message.now k in
    let there : Contains w.kept.under_way.items c.args.message.now = c.in-Some.ensures.found.0 refl in
    short w.start w.nodes.items w.kept.log.moves c.args.self.now _ (Repeat c.args.message.now) c.from_residual.result c.self.view_is
    (ap (shown w.start w.nodes.items) c.make_room.ensures.moves)
    ((repeat_allowed _ w.start w.kept.log.moves k.count k.run c.args.message.now).1 (under.1 there))
    (inl tt)
    c.from_residual.ensures.1

pub invariant_of-self-2 : goal.invariant_of-self-2
invariant_of-self-2 g c =
    let w = c.self.inside in
    let message = c.args.message.now in
    let there : Contains w.kept.under_way.items message = c.in-Some.ensures.found.0 refl in
    let before : c.make_room.new.self.under_way.items ≡ w.kept.under_way.items = c.make_room.ensures.messages ∙ ap (λ (b : Listed Message). b.items) c.in-Some.ensures.same in
    let left : c.put.new.self.items ≡ w.kept.under_way.items ++ message ∷ [] =
    put_on c.put.result c.make_room.new.self.under_way.items w.kept.under_way.items c.put.new.self.items message c.put.ensures.ok
    (c.put.ensures.succeeds c.in_ok-make_room.ensures.bag_room) before in
    let after : c.keep_nothing.new.self.under_way.items ≡ c.put.new.self.items = ap (λ (b : Listed Message). b.items) c.keep_nothing.ensures.messages in
    let moves : c.keep_nothing.new.self.log.moves ≡ w.kept.log.moves ++ record { step = Repeat message; sends = []; marks = [] } ∷ [] =
    quiet_move w.kept.log.moves c.make_room.new.self.log.moves c.keep_nothing.new.self.log.moves c.args.step.now (Repeat message)
    c.make_room.ensures.moves c.requires c.keep_nothing.ensures.moves in
    subst (λ (ms : List Message). Keeps w.start w.nodes.items ms c.keep_nothing.new.self.log.moves) (sym (after ∙ left))
    (subst (λ (ms : List Move). Keeps w.start w.nodes.items (w.kept.under_way.items ++ message ∷ []) ms) (sym moves)
    (kept_runs_go_on.copy w.start w.nodes.items w.kept.under_way.items w.kept.log.moves message c.self.invariant there))

pub returns-clause-run : goal.returns-clause-run
returns-clause-run g c = (invariant_of-self-2 g c).run

pub invariant_of-self : goal.invariant_of-self
invariant_of-self g c =
    let w = c.self.inside in
    kept_as w.start w.nodes.items w.kept.under_way.items _ w.kept.log.moves w.kept.log.moves c.self.invariant (ap (λ (b : Listed Message). b.items) c.in_default.ensures.same) refl

pub returns-in_default-clause-run : goal.returns-in_default-clause-run
returns-in_default-clause-run g c = c.self.invariant.run

pub returns-in_default-clause-count : goal.returns-in_default-clause-count
returns-in_default-clause-count g c = c.self.invariant.count

pub invariant_of-self-in_err-make_room : goal.invariant_of-self-in_err-make_room
invariant_of-self-in_err-make_room g c =
    let w = c.self.inside in
    kept_as w.start w.nodes.items w.kept.under_way.items c.make_room.new.self.under_way.items w.kept.log.moves c.make_room.new.self.log.moves c.self.invariant
    (c.make_room.ensures.messages ∙ ap (λ (b : Listed Message). b.items) c.in-Some.ensures.same) c.make_room.ensures.moves

pub returns-in_err-make_room-clause-run : goal.returns-in_err-make_room-clause-run
returns-in_err-make_room-clause-run g c = (invariant_of-self-in_err-make_room g c).run

pub returns-in_err-make_room-clause-count : goal.returns-in_err-make_room-clause-count
returns-in_err-make_room-clause-count g c = c.self.invariant.count

pub returns-clause-tried : goal.returns-clause-tried
returns-clause-tried g c =
    let w = c.self.inside in
    let message = c.args.message.now in
    let outcome = c.keep_nothing.result in
    moved_quietly w.start w.nodes.items w.kept.log.moves c.keep_nothing.new.self.log.moves c.args.self.now (Repeat message)
    outcome.sends.items outcome.marks.items c.self.view_is
    (quiet_move w.kept.log.moves c.make_room.new.self.log.moves c.keep_nothing.new.self.log.moves c.args.step.now (Repeat message)
    c.make_room.ensures.moves c.requires c.keep_nothing.ensures.moves)
    c.keep_nothing.ensures.nothing.0 c.keep_nothing.ensures.nothing.1

pub returns-clause-count : goal.returns-clause-count
returns-clause-count g c = c.self.invariant.count
