use Rattle.ra_schedule.proofs.ShrunkRuns.{next_told, next_fewer, last_told, none_left}
use Rattle.ra_schedule.proofs.driver.shrinking.shorten.Goals as goal

pub loop-found-preserved : goal.loop-found-preserved
loop-found-preserved c moves is =
    next_told c.args.script.now moves c.loop-found.list c.in-Some.found c.as_slice.result.now _ c.as_slice.ensures c.in-Some.is c.in_ok-found.ensures
    (c.loop-found.invariant moves is)

pub loop-found-smaller : goal.loop-found-smaller
loop-found-smaller c =
    next_fewer c.args.script.now c.loop-found.list c.in-Some.found c.as_slice.result.now _ c.as_slice.ensures c.in-Some.is c.in_ok-found.ensures

pub returns : goal.returns
returns c moves is =
    last_told c.args.script.now moves c.loop-found.list c.as_slice.result.now c.as_slice.ensures
    (none_left c.args.script.now c.as_slice.result.now _ c.in_default.not-Some c.in_ok-found.ensures) (c.loop-found.invariant moves is)
