use Rattle.ra_world.proofs.Runs.{nothing_happened}
use Rattle.ra_world.proofs.GoingOn.{ask_goes_on, leave_goes_on, cancel_goes_on}
use Rattle.ra_world.proofs.WorldLaws.{laws_below, forget_allowed, deliver_allowed, lose_allowed, repeat_allowed}
use Rattle.ra_world.proofs.laws.runs_go_on_where_steps_are_allowed.Goals as goal

pub returns : goal.returns
returns c =
    record {
      empty = nothing_happened;
      ask = λ n start moves. ask_goes_on laws_below n start moves;
      leave = λ n start moves. leave_goes_on laws_below n start moves;
      cancel = λ n start moves. cancel_goes_on laws_below n start moves;
      forget = forget_allowed;
      deliver = deliver_allowed;
      lose = lose_allowed;
      repeat = repeat_allowed;
    }
