use Rattle.std.proofs.Common.{List, length, subst, ◌∙◌}
use Rattle.ra_world.specs.declared.step.Step.{Step}
use Rattle.ra_schedule.specs.Shrinking.{IsInVain}
use Rattle.ra_schedule.specs.Replaying.{IsShorter}
use Rattle.ra_schedule.proofs.ShrunkRuns.{opening_replay, replayed_in_vain, replayed_shorter}
use Rattle.ra_schedule.proofs.driver.shrinking.try_without.Goals as goal

pub replay-requires-clause-opened : goal.replay-requires-clause-opened
replay-requires-clause-opened c = c.in_ok-world.ensures.opened

pub replay-requires-clause-replay : goal.replay-requires-clause-replay
replay-requires-clause-replay c =
    let began = c.in_ok-world.ensures in
    opening_replay c.args.script.now _ _ _ began.ready began.records_as

pub returns-then-not-is_shorter : goal.returns-then-not-is_shorter
returns-then-not-is_shorter c =
    let script = c.args.script.now in
    let limit = length c.args.steps.now in
    let replayed = c.replay.new in
    let told = c.in_ok-is_shorter.ensures in
    subst (λ (steps : List Step). IsInVain script steps limit) (c.as_slice.ensures ∙ c.in_ok-left.ensures)
    (replayed_in_vain script c.as_slice.result.now limit replayed.world replayed.driver c.in_ok-is_shorter.is_shorter told.replay told.comes told.shorter
    c.if-not-is_shorter.true)

pub returns : goal.returns
returns c =
    let script = c.args.script.now in
    let limit = length c.args.steps.now in
    let replayed = c.replay.new in
    let told = c.in_ok-is_shorter.ensures in
    subst (λ (steps : List Step). IsShorter script steps limit (record { steps = replayed.driver.steps; choices = replayed.driver.choices })) (c.as_slice.ensures ∙ c.in_ok-left.ensures)
    (replayed_shorter script c.as_slice.result.now limit replayed.world replayed.driver c.in_ok-is_shorter.is_shorter told.replay told.comes told.shorter
    c.if-not-is_shorter.false)
