use Rattle.std.proofs.Common.{◌≡◌, Err, ap, inl, inr, refl}
use Rattle.std.proofs.lemmas.Bool.{false≢true}
use Rattle.ra_arguments.specs.declared.command_line.Task.TheVariants as task
use Rattle.ra_cli.specs.declared.refusal_lines.CommandRefusal.TheVariants.{Choices, Perform}
use Rattle.ra_cli.proofs.TaskLemmas.{choices_cause, is_some, of_performed}
use Rattle.ra_cli.proofs.TaskStatuses.{if_done, if_left, if_refused, if_refused_at_once}
use Rattle.ra_cli.proofs.commands.sim_command.simulate.Goals as goal

pub returns-in-Ok-true-clause-does : goal.returns-in-Ok-true-clause-does
returns-in-Ok-true-clause-does g c =
    let known = rw c.in-Ok-true.field-0-test at c.in-Ok-true.ensures.ok in
    let some = rw c.in-Ok-true.field-0-test at c.in-Ok-true.ensures.performed in
    let listed = is_some _ (λ none. false≢true (c.in-Ok.ensures.choices none)) in
    if_done (task.Sim c.args.name c.args.choices c.args.format) _ _ _ _ _ refl (listed, c.in-Ok.policy, c.in-Ok.ensures.ok, (known, some))

pub returns-in-Ok-false-clause-does : goal.returns-in-Ok-false-clause-does
returns-in-Ok-false-clause-does g c =
    let known = rw c.in-Ok-false.field-0-test at c.in-Ok-false.ensures.ok in
    let some = rw c.in-Ok-false.field-0-test at c.in-Ok-false.ensures.performed in
    let listed = is_some _ (λ none. false≢true (c.in-Ok.ensures.choices none)) in
    if_left (task.Sim c.args.name c.args.choices c.args.format) _ _ _ _ _ refl (listed, c.in-Ok.policy, c.in-Ok.ensures.ok, (known, some))

pub returns-in-Err-clause-does : goal.returns-in-Err-clause-does
returns-in-Err-clause-does g c =
    let fault = c.in-Err.fault in
    if_refused_at_once (task.Sim c.args.name c.args.choices c.args.format) _ _ _ _ _ (Choices fault) _ c.refuse.ensures (λ writer. writer)
    (inl (fault, refl, choices_cause c.args.choices.now fault c.in-Err.ensures.err))

pub returns-clause-does : goal.returns-clause-does
returns-clause-does g c =
    let fault = c.in-Err-perform_as.fault in
    let known = c.in-Err-perform_as.ensures in
    let old = g.R.Read.remaining c.args.reader.now in
    let before = g.W.Write.contents c.args.writer.now in
    let between = g.W.Write.contents c.perform_as.new.writer in
    let new = g.R.Read.remaining c.perform_as.new.reader in
    let after = g.W.Write.contents c.refuse-in-Err-perform_as.new.writer in
    let policy = c.in-Ok.policy in
    if_refused (task.Sim c.args.name c.args.choices c.args.format) old new before after c.refuse-in-Err-perform_as.result.status between (Perform fault)
    (c.refuse-in-Err-perform_as.new.writer ≡ c.perform_as.new.writer) c.refuse-in-Err-perform_as.ensures
    (ap g.W.Write.contents) (λ other. ap g.W.Write.contents (known.unwritten (λ e. other e)))
    (λ is. of_performed c.args.name c.args.choices c.args.format policy old before between c.in-Ok.ensures.ok (known.prefix (ap Err is)))
    (inr (fault, refl, (λ is. known.failed (ap Err is)), policy, c.in-Ok.ensures.ok, (known.refused, known.cause)))

pub returns-in-Ok-true-clause-unread : goal.returns-in-Ok-true-clause-unread
returns-in-Ok-true-clause-unread g c none = absurd (false≢true (c.in-Ok.ensures.choices none))

pub returns-in-Ok-false-clause-unread : goal.returns-in-Ok-false-clause-unread
returns-in-Ok-false-clause-unread g c none = absurd (false≢true (c.in-Ok.ensures.choices none))

pub returns-clause-unread : goal.returns-clause-unread
returns-clause-unread g c none = absurd (false≢true (c.in-Ok.ensures.choices none))
