use Rattle.std.proofs.Common.{lit<, arith, ℕ, ◌<◌, length, refl, ap, subst, inl}
use Rattle.ra_world.proofs.StepAnswers.{kept_run}
use Rattle.ra_world.proofs.AtPlace.{place_in, number_above, count_with, known_at}
use Rattle.ra_world.proofs.EventTries.{given_up}
use Rattle.ra_world.proofs.GoingOn.{cancel_goes_on}
use Rattle.ra_world.proofs.WorldLaws.{kept_runs_go_on, laws_below}
use Rattle.ra_world.proofs.world.WorldOf.cancel.Goals as goal

pub returns-in_default-clause-tried : goal.returns-in_default-clause-tried
returns-in_default-clause-tried g c =
    let w = c.self.inside in
    (refl, inl (number_above w.start w.nodes.items c.deref.result.now w.kept.log.moves c.args.self.now c.args.node c.self.view_is c.deref.ensures.value (c.in_default.ensures.none.0 refl)))

pub returns-in_default-clause-run : goal.returns-in_default-clause-run
returns-in_default-clause-run g c =
    let w = c.self.inside in
    (kept_run w.start w.nodes.items w.kept.under_way.items w.kept.log.moves c.args.self.now c.self.invariant c.self.view_is).1

pub returns-in_default-clause-count : goal.returns-in_default-clause-count
returns-in_default-clause-count g c =
    let w = c.self.inside in
    (kept_run w.start w.nodes.items w.kept.under_way.items w.kept.log.moves c.args.self.now c.self.invariant c.self.view_is).0

pub index_mut-node-requires : goal.index_mut-node-requires
index_mut-node-requires g c = subst (λ (n : ℕ). c.in-Some.place < n) c.deref.ensures.len c.in-Some.ensures.some.1

pub cancel_at-requires : goal.cancel_at-requires
cancel_at-requires g c =
    let w = c.self.inside in
    let place = c.in-Some.place in
    let within = place_in w.nodes.items c.deref.result.now place c.deref.ensures.value c.in-Some.ensures.some.1 in
    let known = known_at w.nodes.items place c.index_mut-node.result.now
    (kept_runs_go_on.counts w.start w.nodes.items w.kept.under_way.items w.kept.log.moves place c.self.invariant within)
    (kept_runs_go_on.consistent w.start w.nodes.items w.kept.under_way.items w.kept.log.moves place c.self.invariant within) within c.index_mut-node.ensures.value in
    (lit< tt, (known.0, omega (arith, known.1, c.deref.ensures.len, ap length c.deref.ensures.value, c.len.ensures)))

pub invariant_of-self : goal.invariant_of-self
invariant_of-self g c =
    let w = c.self.inside in
    let place = c.in-Some.place in
    let within = place_in w.nodes.items c.deref.result.now place c.deref.ensures.value c.in-Some.ensures.some.1 in
    (given_up kept_runs_go_on.event w.start w.nodes.items w.kept c.cancel_at.new.kept place c.args.node c.args.self.now c.args.step.now c.index_mut-node.result.now c.cancel_at.new.node c.cancel_at.result
    c.self.invariant c.in-Some.ensures.some.0 within c.index_mut-node.ensures.value c.self.view_is
    (λ n start moves. cancel_goes_on laws_below n start moves) c.args.client c.args.name.now c.requires c.cancel_at.ensures).1

pub returns-clause-tried : goal.returns-clause-tried
returns-clause-tried g c =
    let w = c.self.inside in
    let place = c.in-Some.place in
    let within = place_in w.nodes.items c.deref.result.now place c.deref.ensures.value c.in-Some.ensures.some.1 in
    (given_up kept_runs_go_on.event w.start w.nodes.items w.kept c.cancel_at.new.kept place c.args.node c.args.self.now c.args.step.now c.index_mut-node.result.now c.cancel_at.new.node c.cancel_at.result
    c.self.invariant c.in-Some.ensures.some.0 within c.index_mut-node.ensures.value c.self.view_is
    (λ n start moves. cancel_goes_on laws_below n start moves) c.args.client c.args.name.now c.requires c.cancel_at.ensures).0

pub returns-clause-run : goal.returns-clause-run
returns-clause-run g c = (invariant_of-self g c).run

pub returns-clause-count : goal.returns-clause-count
returns-clause-count g c = count_with c.self.inside.nodes.items c.in-Some.place c.cancel_at.new.node c.self.invariant.count
