use Rattle.ra_schedule.proofs.ShrunkRuns.{in_vain_more}
use Rattle.ra_schedule.proofs.driver.shrinking.shorter_between.Goals as goal

pub loop-place-preserved : goal.loop-place-preserved
loop-place-preserved c =
    in_vain_more c.args.script.now c.args.steps.now c.args.from c.loop-place.place _ c.in_default.not-Some c.in_ok-list.ensures c.loop-place.invariant
