use Rattle.std.proofs.Common.{lit<, ◌≡◌, ◌++◌, ◌∷◌, [], List, Contains, refl, sym, ap, ◌∙◌, subst, arith, inl, inr}
use Rattle.ra_stamp.specs.declared.message.Message.{Message}
use Rattle.ra_stamp.specs.Sequence.{Listed}
use Rattle.ra_bag.specs.Bag.{TakesFirst}
use Rattle.ra_world.specs.declared.step.Step.TheVariants.{Lose}
use Rattle.ra_world.specs.declared.error.StepError.TheVariants.{NotUnderWay}
use Rattle.ra_world.specs.Traffic.{Move}
use Rattle.ra_world.specs.StepLog.{LogState, HasRoom}
use Rattle.ra_world.specs.Keeping.{Keeps}
use Rattle.ra_world.proofs.StepTries.{shown, with_cause, short, took_first}
use Rattle.ra_world.proofs.AtPlace.{kept_as, quiet_move, moved_quietly}
use Rattle.ra_world.proofs.WorldLaws.{kept_runs_go_on, lose_allowed}
use Rattle.ra_world.proofs.world.WorldOf.lose.Goals as goal

pub returns-in_default-clause-tried : goal.returns-in_default-clause-tried
returns-in_default-clause-tried g c =
    let w = c.self.inside in
    let under = kept_runs_go_on.under_way w.start w.nodes.items w.kept.under_way.items w.kept.log.moves c.args.message.now c.self.invariant in
    let absent : Contains w.kept.under_way.items c.args.message.now → ⊥ = λ there. let some = c.in_default.ensures.found.1 there in absurd cc in
    (c.self.view_is, with_cause w.start w.nodes.items w.kept.log.moves c.args.self.now (Lose c.args.message.now) NotUnderWay c.self.view_is (λ on. absent (under.0 on)))

pub returns-in_err-make_room-clause-tried : goal.returns-in_err-make_room-clause-tried
returns-in_err-make_room-clause-tried g c =
    let w = c.self.inside in
    let k = c.self.invariant in
    let under = kept_runs_go_on.under_way w.start w.nodes.items w.kept.under_way.items w.kept.log.moves c.args.message.now k in
    let there : Contains w.kept.under_way.items c.args.message.now = c.in-Some.ensures.found.0 refl in
    short w.start w.nodes.items w.kept.log.moves c.args.self.now _ (Lose c.args.message.now) c.from_residual.result c.self.view_is
    (ap (shown w.start w.nodes.items) c.make_room.ensures.moves)
    ((lose_allowed _ w.start w.kept.log.moves k.count k.run c.args.message.now).1 (under.1 there))
    (elim c.in_err-make_room.ensures.err [ inl sends ↦ absurd (omega (arith, sends)) | inr other ↦ elim other [ inl marks ↦ absurd (omega (arith, marks)) | inr full ↦ inr full ] ])
    c.from_residual.ensures.1

pub invariant_of-self-2 : goal.invariant_of-self-2
invariant_of-self-2 g c =
    let w = c.self.inside in
    let takes : TakesFirst w.kept.under_way.items c.args.message.now c.take.new.self.under_way.items =
    took_first c.make_room.new.self.under_way.items w.kept.under_way.items c.take.new.self.under_way.items c.args.message.now w.kept.log.moves c.make_room.new.self.log.moves (c.make_room.ensures.messages ∙ ap (λ (b : Listed Message). b.items) c.in-Some.ensures.same) c.make_room.ensures.moves
    c.take.ensures.taken
    (kept_runs_go_on.taken w.start w.nodes.items w.kept.under_way.items c.take.new.self.under_way.items w.kept.log.moves c.args.message.now c.self.invariant) in
    let left : c.keep_nothing.new.self.under_way.items ≡ c.take.new.self.under_way.items = ap (λ (b : Listed Message). b.items) c.keep_nothing.ensures.messages in
    let moves : c.keep_nothing.new.self.log.moves ≡ w.kept.log.moves ++ record { step = Lose c.args.message.now; sends = []; marks = [] } ∷ [] =
    quiet_move w.kept.log.moves c.take.new.self.log.moves c.keep_nothing.new.self.log.moves c.args.step.now (Lose c.args.message.now)
    (ap (λ (l : LogState). l.moves) c.take.ensures.log ∙ c.make_room.ensures.moves) c.requires c.keep_nothing.ensures.moves in
    subst (λ (ms : List Message). Keeps w.start w.nodes.items ms c.keep_nothing.new.self.log.moves) (sym left)
    (subst (λ (ms : List Move). Keeps w.start w.nodes.items c.take.new.self.under_way.items ms) (sym moves)
    (kept_runs_go_on.loss w.start w.nodes.items w.kept.under_way.items c.take.new.self.under_way.items w.kept.log.moves c.args.message.now c.self.invariant takes))

pub returns-clause-run : goal.returns-clause-run
returns-clause-run g c = (invariant_of-self-2 g c).run

pub invariant_of-self : goal.invariant_of-self
invariant_of-self g c =
    let w = c.self.inside in
    kept_as w.start w.nodes.items w.kept.under_way.items _ w.kept.log.moves w.kept.log.moves c.self.invariant (ap (λ (b : Listed Message). b.items) c.in_default.ensures.same) refl

pub returns-in_default-clause-run : goal.returns-in_default-clause-run
returns-in_default-clause-run g c = c.self.invariant.run

pub returns-in_default-clause-count : goal.returns-in_default-clause-count
returns-in_default-clause-count g c = c.self.invariant.count

pub invariant_of-self-in_err-make_room : goal.invariant_of-self-in_err-make_room
invariant_of-self-in_err-make_room g c =
    let w = c.self.inside in
    kept_as w.start w.nodes.items w.kept.under_way.items c.make_room.new.self.under_way.items w.kept.log.moves c.make_room.new.self.log.moves c.self.invariant
    (c.make_room.ensures.messages ∙ ap (λ (b : Listed Message). b.items) c.in-Some.ensures.same) c.make_room.ensures.moves

pub returns-in_err-make_room-clause-run : goal.returns-in_err-make_room-clause-run
returns-in_err-make_room-clause-run g c = (invariant_of-self-in_err-make_room g c).run

pub returns-in_err-make_room-clause-count : goal.returns-in_err-make_room-clause-count
returns-in_err-make_room-clause-count g c = c.self.invariant.count

pub returns-clause-tried : goal.returns-clause-tried
returns-clause-tried g c =
    let w = c.self.inside in
    let outcome = c.keep_nothing.result in
    moved_quietly w.start w.nodes.items w.kept.log.moves c.keep_nothing.new.self.log.moves c.args.self.now (Lose c.args.message.now)
    outcome.sends.items outcome.marks.items c.self.view_is
    (quiet_move w.kept.log.moves c.take.new.self.log.moves c.keep_nothing.new.self.log.moves c.args.step.now (Lose c.args.message.now)
    (ap (λ (l : LogState). l.moves) c.take.ensures.log ∙ c.make_room.ensures.moves) c.requires c.keep_nothing.ensures.moves)
    c.keep_nothing.ensures.nothing.0 c.keep_nothing.ensures.nothing.1

pub returns-clause-count : goal.returns-clause-count
returns-clause-count g c = c.self.invariant.count

pub take-requires : goal.take-requires
take-requires g c = (
  lit< tt,
  subst (λ (ms : List Message). Contains ms c.args.message.now) (sym (c.make_room.ensures.messages ∙ ap (λ (b : Listed Message). b.items) c.in-Some.ensures.same))
      (c.in-Some.ensures.found.0 refl),
)

pub keep_nothing-requires : goal.keep_nothing-requires
keep_nothing-requires g c = (lit< tt, subst (λ (l : LogState). HasRoom l 0) (sym c.take.ensures.log) c.in_ok-make_room.ensures.log_room)
