use Rattle.std.proofs.Common.{◌+◌, ◌≤◌, arith}
use Rattle.std.specs.Prelude.{vec_len, vec_capacity}
use Rattle.ra_site.proofs.NoError.{not_err}
use Rattle.ra_site.proofs.site.desk.Desk.receive_all.Goals as goal

pub push_reserved-requires : goal.push_reserved-requires
push_reserved-requires g c =
    let stepped = c.reserve.new.self in
    omega (arith, not_err (vec_len stepped + 1 ≤ vec_capacity stepped) c.reserve.result c.if-is_err.ensures.value c.reserve.ensures.ok)
