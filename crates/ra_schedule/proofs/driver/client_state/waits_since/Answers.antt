use Rattle.std.proofs.Common.{refl}
use Rattle.ra_schedule.proofs.SinceAsks.{all_left, next_left, asks_not, asked_other, asked, none_left}
use Rattle.ra_schedule.proofs.driver.client_state.waits_since.Goals as goal

pub loop-last-init : goal.loop-last-init
loop-last-init c moves are waits = all_left c.args.client moves c.args.steps.now are waits

-- a step in which another client asks
pub loop-last-preserved-else-asker-client : goal.loop-last-preserved-else-asker-client
loop-last-preserved-else-asker-client c moves are waits =
    next_left c.args.client moves c.loop-last.rest.now c.in-Some.before.now c.in-Some.last.now c.in-Some.ensures.cases.0 (c.loop-last.invariant moves are waits)
    (asked_other c.args.client c.in-Ask.asker c.in-Some.last.now _ _ _ c.in-Ask.is c.if-asker-client.false)

-- a step that is no ask
pub loop-last-preserved : goal.loop-last-preserved
loop-last-preserved c moves are waits =
    next_left c.args.client moves c.loop-last.rest.now c.in-Some.before.now c.in-Some.last.now c.in-Some.ensures.cases.0 (c.loop-last.invariant moves are waits)
    (asks_not c.args.client c.in-Some.last.now c.in_default-last.not-Ask)

pub returns-then-asker-client : goal.returns-then-asker-client
returns-then-asker-client c moves are waits =
    asked c.args.client moves c.loop-last.rest.now c.in-Some.before.now c.in-Some.last.now c.in-Some.ensures.cases.0 _ (c.loop-last.invariant moves are waits)
    (_, _, _, rw c.if-asker-client.true at c.in-Ask.is, refl)

pub returns : goal.returns
returns c moves are waits = none_left c.args.client moves c.loop-last.rest.now c.in_default.ensures.cases (c.loop-last.invariant moves are waits)
