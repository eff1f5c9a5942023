use Rattle.ra_link.proofs.PutBack.{known_of_running}
use Rattle.ra_link.proofs.laws.what_is_known_of_a_running_start_is_on_its_disk.Goals as goal

pub returns : goal.returns
returns c = known_of_running
