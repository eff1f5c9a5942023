use Rattle.ra_schedule.proofs.Unrepeated.{nothing_repeated}
use Rattle.ra_schedule.proofs.laws.policies_repeat_no_message.Goals as goal

pub returns : goal.returns
returns c = nothing_repeated
