use Rattle.std.proofs.Common.{replicate, ap, refl, subst, sym, ◌∙◌, ℕ, List}
use Rattle.ra_schedule.specs.declared.driver.client_progress.Progress.{Progress}
use Rattle.ra_schedule.specs.Progress.{Tracks}
use Rattle.ra_schedule.proofs.Turns.{opening_progress, tracks_none, ready_none}
use Rattle.ra_schedule.proofs.driver.Driver.open.Goals as goal

pub of-requires : goal.of-requires
of-requires c =
    subst (λ (list : List Progress). Tracks c.args.script.now c.args.world.now list) (sym c.deref.ensures.value)
    (tracks_none c.args.script.now c.args.world.now c.requires.opened c.in_ok-clients.clients.items
    (c.in_ok-clients.ensures.items_if_clones_equal (λ y same. same) ∙ ap (λ (n : ℕ). replicate n opening_progress) c.clients.ensures.value))

pub returns-clause-ready : goal.returns-clause-ready
returns-clause-ready c =
    let random = c.in_ok-random.ensures in
    ready_none c.args.script.now c.args.world.now c.requires.opened c.args.policy.now _ c.clients.ensures.script.count c.requires.run
    (tracks_none c.args.script.now c.args.world.now c.requires.opened c.in_ok-clients.clients.items
    (c.in_ok-clients.ensures.items_if_clones_equal (λ y same. same) ∙ ap (λ (n : ℕ). replicate n opening_progress) c.clients.ensures.value))
    refl random.generator random.random c.new-steps.ensures c.new-choices.ensures
