use Rattle.std.proofs.Common.{Err, ap}
use Rattle.ra_cli.proofs.AnswerCallLemmas.{not_taken}
use Rattle.ra_cli.proofs.commands.answer_command.reaction_to.Goals as goal

pub returns-in-Ok-clause-ok : goal.returns-in-Ok-clause-ok
returns-in-Ok-clause-ok c = (c.receive.new.self, rw (c.of-automaton.ensures.value, c.name.ensures) at c.in-Ok.ensures.received.ok)

pub returns-clause-err : goal.returns-clause-err
returns-clause-err c =
    let wrong = rw c.of-automaton.ensures.value at c.in-Err.ensures.address.wrong_node in
    let strange = rw c.of-automaton.ensures.value at c.in-Err.ensures.address.stranger in
    rw c.refusal_of.ensures
    (not_taken c.args.me.node c.args.me.nodes c.args.message.now c.in-Err.refused (λ is. wrong.0 (ap Err is)) (λ is. strange.0 (ap Err is)))
