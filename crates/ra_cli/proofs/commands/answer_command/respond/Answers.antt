use Rattle.std.proofs.Common.{◌≡◌, Err, refl, ap}
use Rattle.ra_arguments.specs.declared.command_line.Task.TheVariants as task
use Rattle.ra_cli.specs.declared.refusal_lines.CommandRefusal.TheVariants.{Answer}
use Rattle.ra_cli.proofs.TaskLemmas.{no_node, of_answered}
use Rattle.ra_cli.proofs.TaskStatuses.{if_done, if_refused}
use Rattle.ra_cli.proofs.commands.answer_command.respond.Goals as goal

pub returns-in-Ok-clause-does : goal.returns-in-Ok-clause-does
returns-in-Ok-clause-does g c = if_done (task.Answer c.args.node c.args.nodes) _ _ _ _ _ refl (c.in-Ok.ensures.member, c.in-Ok.ensures.ok)

pub returns-in-Ok-clause-unread : goal.returns-in-Ok-clause-unread
returns-in-Ok-clause-unread g c none = absurd (none c.in-Ok.ensures.member)

pub returns-in-Err-clause-does : goal.returns-in-Err-clause-does
returns-in-Err-clause-does g c =
    let fault = c.in-Err.fault in
    let old = g.R.Read.remaining c.args.reader.now in
    let before = g.W.Write.contents c.args.writer.now in
    let between = g.W.Write.contents c.answer.new.writer in
    let new = g.R.Read.remaining c.answer.new.reader in
    let after = g.W.Write.contents c.refuse.new.writer in
    if_refused (task.Answer c.args.node c.args.nodes) old new before after c.refuse.result.status between (Answer fault)
    (c.refuse.new.writer ≡ c.answer.new.writer) c.refuse.ensures (ap g.W.Write.contents)
    (λ other. ap g.W.Write.contents (c.in-Err.ensures.writes.unwritten (λ e. other e)))
    (λ is. of_answered c.args.node c.args.nodes old before between (c.in-Err.ensures.writes.prefix (ap Err is)))
    (fault, refl, (λ is. c.in-Err.ensures.reads.failed (ap Err is)), (c.in-Err.ensures.reads.refused, c.in-Err.ensures.cause))

pub returns-in-Err-clause-unread : goal.returns-in-Err-clause-unread
returns-in-Err-clause-unread g c none =
    let cause = c.in-Err.ensures.cause in
    c.in-Err.ensures.untouched (no_node c.args.node c.args.nodes cause.0 c.in-Err.fault none cause.1)
