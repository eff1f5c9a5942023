use Rattle.ra_world.proofs.Outcomes.{reply_awaited}
use Rattle.ra_world.proofs.WorldLaws.{laws_below}
use Rattle.ra_world.proofs.laws.no_delivered_reply_is_a_stray.Goals as goal

pub returns : goal.returns
returns c = reply_awaited laws_below
