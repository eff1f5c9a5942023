use Rattle.ra_host_text.proofs.Clients.{answer_feed, client_feed, one_answer, one_client}
use Rattle.ra_host_text.proofs.Inputs.{one_input}
use Rattle.ra_host_text.proofs.StatusLines.{status_feed}
use Rattle.ra_host_text.proofs.laws.lines_are_read_in_one_way.Goals as goal

pub returns-clause-client : goal.returns-clause-client
returns-clause-client c = one_client

pub returns-clause-answer : goal.returns-clause-answer
returns-clause-answer c = one_answer

pub returns-clause-input : goal.returns-clause-input
returns-clause-input c = one_input

pub returns-clause-client_feed : goal.returns-clause-client_feed
returns-clause-client_feed c = client_feed

pub returns-clause-answer_feed : goal.returns-clause-answer_feed
returns-clause-answer_feed c = answer_feed

pub returns-clause-status_feed : goal.returns-clause-status_feed
returns-clause-status_feed c = status_feed
