use Rattle.std.proofs.Common.{inl, inr, refl}
use Rattle.ra_host.proofs.ReplayedLinks.{ready_is}
use Rattle.ra_host.proofs.host.Host.ready.Goals as goal

pub returns-clause-ok : goal.returns-clause-ok
returns-clause-ok c h are is may few =
    let done = c.in-Ok.ensures.ok refl h are is may in (
      record { may = may; new_is = inl (done.1, refl) },
      ready_is c.args.links c.replay.new.self c.args.played c.drop_acknowledged.new.self h are done.0 is few c.drop_acknowledged.ensures.timed c.drop_acknowledged.ensures.outgoing,
    )

pub returns-in-Err-clause-old : goal.returns-in-Err-clause-old
returns-in-Err-clause-old c err h are is may =
    let short = c.in-Err.ensures.old refl h are is in
    (short.0, record { may = may; new_is = inr (short.0, short.1, short.2, refl) })
