use Rattle.std.proofs.Common.{◌+◌, ◌≤◌, arith}
use Rattle.std.specs.Prelude.{vec_len, vec_capacity}
use Rattle.ra_site.proofs.NoError.{not_err}
use Rattle.ra_site.proofs.post.Inbox.take.Goals as goal

pub push_reserved-requires-in-loop : goal.push_reserved-requires-in-loop
push_reserved-requires-in-loop g c =
    let taken = c.reserve-in-loop.new.self in
    omega (arith, not_err (vec_len taken + 1 ≤ vec_capacity taken) c.reserve-in-loop.result c.if-is_err.ensures.value c.reserve-in-loop.ensures.ok)
