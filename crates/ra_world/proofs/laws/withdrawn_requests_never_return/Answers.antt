use Rattle.ra_table.proofs.History.{run_waits, same_entries}
use Rattle.ra_world.proofs.Fairness.{TablesByMarks}
use Rattle.ra_world.proofs.GivingUp.{granted_again}
use Rattle.ra_world.proofs.Returning.{requests_rise, withdrawn_or_granted}
use Rattle.ra_world.proofs.WorldLaws.{laws_below, marks_kept}
use Rattle.ra_world.proofs.laws.withdrawn_requests_never_return.Goals as goal

history : TablesByMarks
history = record { same = same_entries; waits = λ marks table e run. (run_waits marks table e run).0 }

pub returns : goal.returns
returns c = record {
  rise = λ n start moves e f i j count run. requests_rise laws_below marks_kept history n start count moves run e f i j;
  withdrawn = λ n start moves e i j count run. withdrawn_or_granted laws_below marks_kept history n start count moves run e i j;
  given_up = λ n start before later move node client name. granted_again laws_below marks_kept n start before later move node client name;
}
