use Rattle.std.proofs.Common.{◌<◌, length, arith}
use Rattle.ra_host.proofs.LinksHeld.{synced_more}
use Rattle.ra_host.proofs.links.sync_all.Goals as goal

pub loop-link-preserved : goal.loop-link-preserved
loop-link-preserved c =
    let within : c.loop-link.link-index < length c.args.links.now = omega (arith, c.loop-link-test.true) in
    synced_more c.args.links.now c.loop-link.links c.loop-link.link-index _ c.synced.new.self within (omega (arith, c.loop-link.auto.links)) c.loop-link.invariant c.synced.ensures
