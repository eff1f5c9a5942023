use Rattle.std.proofs.Common.{false}
use Rattle.ra_schedule.proofs.MovedOn.{stopped, others_kept}
use Rattle.ra_schedule.proofs.driver.client_progress.stop_waiting.Goals as goal

pub returns-then-number-list-clause-others : goal.returns-then-number-list-clause-others
returns-then-number-list-clause-others c k d other = others_kept c.args.list.now c.args.client k d _ c.if-number-ge1.true other

pub returns-then-number-list-clause-this : goal.returns-then-number-list-clause-this
returns-then-number-list-clause-this c k d within at =
    stopped c.args.list.now c.args.client k d (record { done = 0; waiting = false }) c.if-number-ge1.true within at
