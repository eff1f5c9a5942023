use Rattle.std.proofs.Common.{sym, ◌∙◌}
use Rattle.std.proofs.lemmas.Bool.{false≢true}
use Rattle.ra_schedule.proofs.ClientLines.{is_done, is_next}
use Rattle.ra_schedule.proofs.EnabledFlags.{flag_of}
use Rattle.ra_schedule.proofs.SinceAsks.{at_wait}
use Rattle.ra_schedule.proofs.driver.client_state.state_of.Goals as goal

pub returns-then-progress : goal.returns-then-progress
returns-then-progress c =
    let moves = c.args.world.now.moves in
    at_wait c.args.script.now moves c.args.client c.waits_since.result (c.waits_since.ensures moves c.requires.steps (c.requires.progress.waiting.0 c.if-progress.true))

pub returns-in-None : goal.returns-in-None
returns-in-None c =
    is_done c.args.script.now c.args.world.now.moves c.args.client c.args.progress c.requires.progress
    (λ waits. false≢true (sym c.if-progress.false ∙ waits)) (sym c.in-None.ensures.value)

pub returns-in-Some : goal.returns-in-Some
returns-in-Some c =
    let script = c.args.script.now in
    let moves = c.args.world.now.moves in
    let enabled = c.is_some-enabled.result in
    is_next script moves c.args.client c.args.progress c.requires.progress (λ waits. false≢true (sym c.if-progress.false ∙ waits))
    c.in-Some.op enabled (sym c.in-Some.ensures.value)
    (flag_of script moves c.args.client c.enabled_step.result enabled c.enabled_step.ensures.some c.enabled_step.ensures.none c.is_some-enabled.ensures)
