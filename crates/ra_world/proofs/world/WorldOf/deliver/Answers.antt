use Rattle.std.proofs.Common.{lit<, ℕ, ◌≡◌, ◌+◌, ◌<◌, length, Contains, refl, sym, ap, ◌∙◌, subst, arith}
use Rattle.ra_stamp.specs.declared.message.Message.{Message}
use Rattle.ra_stamp.specs.Message.{to_of}
use Rattle.ra_stamp.specs.Sequence.{Listed}
use Rattle.ra_world.specs.declared.step.Step.TheVariants.{Deliver}
use Rattle.ra_world.specs.declared.error.StepError.TheVariants.{NotUnderWay}
use Rattle.ra_world.specs.declared.world.kept_steps.KeptSteps.{KeptSteps}
use Rattle.ra_world.proofs.StepTries.{with_cause}
use Rattle.ra_world.proofs.AtPlace.{place_in, count_with, kept_as}
use Rattle.ra_world.proofs.EventTries.{received, for_node}
use Rattle.ra_world.proofs.WorldLaws.{kept_runs_go_on, deliver_allowed}
use Rattle.ra_world.proofs.world.WorldOf.deliver.Goals as goal

pub returns-in_default-clause-tried : goal.returns-in_default-clause-tried
returns-in_default-clause-tried g c =
    let w = c.self.inside in
    let under = kept_runs_go_on.under_way w.start w.nodes.items w.kept.under_way.items w.kept.log.moves c.args.message.now c.self.invariant in
    let absent : Contains w.kept.under_way.items c.args.message.now → ⊥ = λ there. let some = c.in_default.ensures.found.1 there in absurd cc in
    (c.self.view_is, with_cause w.start w.nodes.items w.kept.log.moves c.args.self.now (Deliver c.args.message.now) NotUnderWay c.self.view_is (λ on. absent (under.0 on)))

pub invariant_of-self : goal.invariant_of-self
invariant_of-self g c =
    let w = c.self.inside in
    kept_as w.start w.nodes.items w.kept.under_way.items _ w.kept.log.moves w.kept.log.moves c.self.invariant (ap (λ (b : Listed Message). b.items) c.in_default.ensures.same) refl

pub returns-in_default-clause-run : goal.returns-in_default-clause-run
returns-in_default-clause-run g c = c.self.invariant.run

pub returns-in_default-clause-count : goal.returns-in_default-clause-count
returns-in_default-clause-count g c = c.self.invariant.count

pub unreachable-requires : goal.unreachable-requires
unreachable-requires g c =
    let w = c.self.inside in
    let there : Contains w.kept.under_way.items c.args.message.now = c.in-Some.ensures.found.0 refl in
    let taken = kept_runs_go_on.is_taken w.start w.nodes.items w.kept.under_way.items w.kept.log.moves c.args.message.now c.self.invariant there in
    omega (arith, taken.0, c.in_default-place_of.ensures.none.0 refl, c.to.ensures, ap length c.deref.ensures.value)

pub index_mut-receiver-requires : goal.index_mut-receiver-requires
index_mut-receiver-requires g c = subst (λ (n : ℕ). c.in-Some-place_of.place < n) c.deref.ensures.len c.in-Some-place_of.ensures.some.1

-- the message is under way, and the node at this place is its receiver
pub receive_at-requires : goal.receive_at-requires
receive_at-requires g c =
    let w = c.self.inside in
    let message = c.args.message.now in
    let place = c.in-Some-place_of.place in
    let there : Contains w.kept.under_way.items message = c.in-Some.ensures.found.0 refl in
    let taken = kept_runs_go_on.is_taken w.start w.nodes.items w.kept.under_way.items w.kept.log.moves message c.self.invariant there in
    let number : place + 1 ≡ to_of message = c.in-Some-place_of.ensures.some.0 ∙ c.to.ensures in
    let within = place_in w.nodes.items c.deref.result.now place c.deref.ensures.value c.in-Some-place_of.ensures.some.1 in (
      lit< tt,
      (
        subst (λ (b : Listed Message). Contains b.items message) (sym c.in-Some.ensures.same) there,
        for_node w.nodes.items place (to_of message) c.index_mut-receiver.result.now message number within c.index_mut-receiver.ensures.value taken.1,
      ),
    )

pub invariant_of-self-2 : goal.invariant_of-self-2
invariant_of-self-2 g c =
    let w = c.self.inside in
    let k = c.self.invariant in
    let message = c.args.message.now in
    let place = c.in-Some-place_of.place in
    let kept : KeptSteps g.row.KEEPS_MARKS = record { under_way = c.find.new.self; log = w.kept.log } in
    let same : kept.under_way.items ≡ w.kept.under_way.items = ap (λ (b : Listed Message). b.items) c.in-Some.ensures.same in
    let keeps = kept_as w.start w.nodes.items w.kept.under_way.items kept.under_way.items w.kept.log.moves w.kept.log.moves k same refl in
    let under = kept_runs_go_on.under_way w.start w.nodes.items w.kept.under_way.items w.kept.log.moves message k in
    let was = under.1 (c.in-Some.ensures.found.0 refl) in
    let number : place + 1 ≡ to_of message = c.in-Some-place_of.ensures.some.0 ∙ c.to.ensures in
    let within = place_in w.nodes.items c.deref.result.now place c.deref.ensures.value c.in-Some-place_of.ensures.some.1 in
    (received kept_runs_go_on.event w.start w.nodes.items kept c.receive_at.new.kept place (to_of message) c.args.self.now c.args.step.now
    c.index_mut-receiver.result.now c.receive_at.new.receiver c.receive_at.result keeps number within c.index_mut-receiver.ensures.value c.self.view_is message
    ((deliver_allowed (length w.nodes.items) w.start w.kept.log.moves k.count k.run message).1 was) (λ sends marks. was)
    (λ next. kept_runs_go_on.taken w.start w.nodes.items kept.under_way.items next w.kept.log.moves message keeps) refl c.requires c.receive_at.ensures).1

pub returns-clause-tried : goal.returns-clause-tried
returns-clause-tried g c =
    let w = c.self.inside in
    let k = c.self.invariant in
    let message = c.args.message.now in
    let place = c.in-Some-place_of.place in
    let kept : KeptSteps g.row.KEEPS_MARKS = record { under_way = c.find.new.self; log = w.kept.log } in
    let same : kept.under_way.items ≡ w.kept.under_way.items = ap (λ (b : Listed Message). b.items) c.in-Some.ensures.same in
    let keeps = kept_as w.start w.nodes.items w.kept.under_way.items kept.under_way.items w.kept.log.moves w.kept.log.moves k same refl in
    let under = kept_runs_go_on.under_way w.start w.nodes.items w.kept.under_way.items w.kept.log.moves message k in
    let was = under.1 (c.in-Some.ensures.found.0 refl) in
    let number : place + 1 ≡ to_of message = c.in-Some-place_of.ensures.some.0 ∙ c.to.ensures in
    let within = place_in w.nodes.items c.deref.result.now place c.deref.ensures.value c.in-Some-place_of.ensures.some.1 in
    (received kept_runs_go_on.event w.start w.nodes.items kept c.receive_at.new.kept place (to_of message) c.args.self.now c.args.step.now
    c.index_mut-receiver.result.now c.receive_at.new.receiver c.receive_at.result keeps number within c.index_mut-receiver.ensures.value c.self.view_is message
    ((deliver_allowed (length w.nodes.items) w.start w.kept.log.moves k.count k.run message).1 was) (λ sends marks. was)
    (λ next. kept_runs_go_on.taken w.start w.nodes.items kept.under_way.items next w.kept.log.moves message keeps) refl c.requires c.receive_at.ensures).0

pub returns-clause-run : goal.returns-clause-run
returns-clause-run g c = (invariant_of-self-2 g c).run

pub returns-clause-count : goal.returns-clause-count
returns-clause-count g c = count_with c.self.inside.nodes.items c.in-Some-place_of.place c.receive_at.new.receiver c.self.invariant.count
