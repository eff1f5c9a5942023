use Rattle.std.proofs.Common.{length, ap, arith}
use Rattle.ra_world.proofs.Outcomes.{sends_at_most}
use Rattle.ra_world.proofs.WorldLaws.{laws_below}
use Rattle.ra_world.proofs.laws.runs_send_at_most_two_messages_for_each_request_and_other_node.Goals as goal

pub returns : goal.returns
returns c =
    record {
      with_copies = λ n start moves count run. sends_at_most laws_below n start moves count run;
      unrepeated = λ n start moves count run none. omega (arith, sends_at_most laws_below n start moves count run, ap length none);
    }
