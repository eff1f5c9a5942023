use Rattle.std.proofs.Common.{◌≡◌}
use Rattle.ra_trace.proofs.checker.Checker.is_complete.Goals as goal

pub returns : goal.returns
returns c =
    let (left, leaves, counted) = c.under_way.ensures.value in
    (left, leaves, c.queued.result, c.queued.ensures.value, cc (c.nothing_is_left.ensures, c.requests.ensures.value, c.is_idle.ensures.idle))
