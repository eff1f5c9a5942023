use Rattle.ra_automaton.proofs.Opening.{opening_is_consistent}
use Rattle.ra_automaton.proofs.Consistent.{consistent_request, consistent_receive, consistent_leave, consistent_leave_and_request, consistent_withdraw, consistent_withdraw_and_request}
use Rattle.ra_automaton.proofs.laws.steps_keep_a_state_consistent.Goals as goal

pub returns : goal.returns
returns c = record {
  opening = λ me nodes start name. opening_is_consistent me nodes name start;
  request = λ old new mode sends entered. consistent_request old mode sends entered new;
  receive = λ old new message sends entered. consistent_receive old message sends entered new;
  leave = λ old new sends. consistent_leave old sends new;
  leave_and_request = λ old new mode sends entered. consistent_leave_and_request old mode sends entered new;
  withdraw = λ old new sends. consistent_withdraw old sends new;
  withdraw_and_request = λ old new mode sends entered. consistent_withdraw_and_request old mode sends entered new;
}
