use Rattle.ra_link.proofs.Honest.{known_on_disk}
use Rattle.ra_link.proofs.laws.acknowledged_frames_are_on_the_disk.Goals as goal

pub returns : goal.returns
returns c = known_on_disk
