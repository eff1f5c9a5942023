use Rattle.ra_host_text.proofs.Clients.{answer_parts}
use Rattle.ra_host_text.proofs.answer.Answer.parse.Goals as goal

pub returns : goal.returns
returns c = answer_parts c.args.line.now c.in_ok-word.word.now c.in_ok-word.rest.now c.answer_of.result c.in_ok-word.ensures c.answer_of.ensures
