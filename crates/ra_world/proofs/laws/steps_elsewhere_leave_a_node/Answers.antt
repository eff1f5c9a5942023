use Rattle.ra_world.proofs.WorldLaws.{ask_stays, leave_stays, cancel_stays}
use Rattle.ra_world.proofs.laws.steps_elsewhere_leave_a_node.Goals as goal

pub returns : goal.returns
returns c = record { ask = ask_stays; leave = leave_stays; cancel = cancel_stays }
