use Rattle.std.proofs.Common.{◌≡◌, List, ℕ, Option, Err, ap, refl, string_bytes, subst}
use Rattle.ra_arguments.specs.declared.command_line.Task.TheVariants as task
use Rattle.ra_cli.specs.Statuses.{Writes}
use Rattle.ra_cli.specs.declared.refusal_lines.CommandRefusal.TheVariants.{Draw}
use Rattle.ra_cli.proofs.PictureLemmas.{of_picture, of_denied}
use Rattle.ra_cli.proofs.Statuses.{writes_as}
use Rattle.ra_cli.proofs.TaskLemmas.{of_part}
use Rattle.ra_cli.proofs.TaskStatuses.{if_denied, if_done, if_refused}
use Rattle.ra_cli.proofs.commands.draw_command.draw_part.Goals as goal

pub returns-in-Ok-None : goal.returns-in-Ok-None
returns-in-Ok-None g c =
    if_done (task.Draw c.args.kind c.args.part) _ _ _ _ _ refl (rw c.in-Ok-None.field-0-is at c.in-Ok-None.ensures.ok)

pub returns-in-Ok-Some : goal.returns-in-Ok-Some
returns-in-Ok-Some g c =
    let old = g.R.Read.remaining c.args.reader.now in
    let new = g.R.Read.remaining c.draw_input.new.reader in
    let after = g.W.Write.contents c.print_text.new.writer in
    let status = c.print_text.result.status in
    let line = string_bytes c.in-Ok-Some.denial.line in
    let (input, read, (why, same)) = rw c.in-Ok-Some.field-0-is at c.in-Ok-Some.ensures.ok in
    if_denied (task.Draw c.args.kind c.args.part) old new _ after status line
    (subst (λ (before : Option (List ℕ)). Writes line 3 before after status) (ap g.W.Write.contents same)
    (writes_as line c.as_bytes.result.now 3 _ _ status status refl c.as_bytes.ensures.value c.print_text.ensures))
    (λ all. (input, line, read, why, all))
    (of_denied c.args.kind c.args.part old new line input read why)

pub returns-in-Err : goal.returns-in-Err
returns-in-Err g c =
    let fault = c.in-Err.fault in
    let old = g.R.Read.remaining c.args.reader.now in
    let new = g.R.Read.remaining c.draw_input.new.reader in
    let before = g.W.Write.contents c.args.writer.now in
    let between = g.W.Write.contents c.draw_input.new.writer in
    let after = g.W.Write.contents c.refuse.new.writer in
    if_refused (task.Draw c.args.kind c.args.part) old new before after c.refuse.result.status between (Draw fault)
    (c.refuse.new.writer ≡ c.draw_input.new.writer) c.refuse.ensures (ap g.W.Write.contents)
    (λ other. ap g.W.Write.contents (c.in-Err.ensures.unwritten (λ e. other e)))
    (λ is. of_picture c.args.kind c.args.part old new before between (c.in-Err.ensures.prefix (ap Err is)))
    (fault, refl, of_part c.args.kind c.args.part old new before between _ fault c.in-Err.ensures)
