use Rattle.ra_node.proofs.Possible.{ask_is_possible, ask_was_allowed, leave_is_possible, leave_was_allowed, cancel_is_possible, cancel_was_allowed, receive_is_possible}
use Rattle.ra_node.proofs.Forgetting.{forget_is_possible}
use Rattle.ra_node.proofs.laws.events_exist_where_they_are_allowed.Goals as goal

pub returns : goal.returns
returns c = record {
  ask = λ old client name mode h. (ask_was_allowed old client name mode, ask_is_possible old client name mode h);
  leave = λ old client name h. (leave_was_allowed old client name, leave_is_possible old client name h);
  cancel = λ old client name h. (cancel_was_allowed old client name, cancel_is_possible old client name h);
  receive = receive_is_possible;
  forget = forget_is_possible;
}
