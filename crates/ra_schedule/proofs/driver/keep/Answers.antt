use Rattle.ra_schedule.proofs.Ended.{recorded_more}
use Rattle.ra_schedule.proofs.driver.keep.Goals as goal

pub returns-in_ok-push-2-clause-steps : goal.returns-in_ok-push-2-clause-steps
returns-in_ok-push-2-clause-steps c moves move same so_far =
    recorded_more c.args.records moves move c.args.step.now c.args.steps.now.items c.push.new.self.items c.if-records.true c.in_ok-push.ensures.ok same so_far
