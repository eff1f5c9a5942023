use Rattle.std.proofs.Common.{Ok, Err, ap, refl}
use Rattle.ra_trace.specs.declared.mark_log.marks_verdict.MarksVerdict.TheVariants.{Invalid}
use Rattle.ra_cli.specs.Checks.{marks_verdict_text as line_of}
use Rattle.ra_arguments.specs.declared.command_line.input_kind.InputKind.TheVariants.{Marks}
use Rattle.ra_cli.proofs.PictureLemmas.{denies, fewer, shows, refuses}
use Rattle.ra_cli.proofs.commands.draw_command.draw_log.Goals as goal

pub returns-in-Ok-Valid : goal.returns-in-Ok-Valid
returns-in-Ok-Valid g c =
    let (input, read, verdict, drawn) = rw c.in-Ok-Valid.field-0-is at c.in-Ok-Valid.ensures.ok in
    shows Marks c.args.part
    (g.R.Read.remaining c.args.reader.now) (g.R.Read.remaining c.draw_marks.new.reader) (g.W.Write.contents c.args.writer.now) (g.W.Write.contents c.draw_marks.new.writer) _ input read ((_, _, verdict), drawn.0, drawn.1, drawn.2, drawn.3)

pub returns-in-Ok-Invalid : goal.returns-in-Ok-Invalid
returns-in-Ok-Invalid g c =
    let line = c.in-Ok-Invalid.line in
    let cause = c.in-Ok-Invalid.cause in
    let (input, read, verdict, nothing) = rw c.in-Ok-Invalid.field-0-is at c.in-Ok-Invalid.ensures.ok in
    denies Marks c.args.part (g.R.Read.remaining c.args.reader.now) (g.R.Read.remaining c.draw_marks.new.reader) (g.W.Write.contents c.args.writer.now)
    (g.W.Write.contents c.draw_marks.new.writer) _ c.marks_verdict_text.result (line_of (Invalid line cause)) input c.denied.result c.marks_verdict_text.ensures c.denied.ensures.ok
    c.denied.ensures.err read (line, cause, verdict, refl) (c.in-Ok-Invalid.ensures.invalid line cause (ap Ok c.in-Ok-Invalid.field-0-is))

pub returns-in-Err : goal.returns-in-Err
returns-in-Err g c =
    refuses Marks c.args.part
    (g.R.Read.remaining c.args.reader.now) (g.R.Read.remaining c.draw_marks.new.reader) (g.W.Write.contents c.args.writer.now) (g.W.Write.contents c.draw_marks.new.writer) _ c.in-Err.fault c.in-Err.ensures.unwritten
    (λ same. fewer _ _ (c.in-Err.ensures.failed (ap Err same))) (λ same. c.in-Err.ensures.limit (ap Err same))
    (λ of. let (input, a, b, read, verdict, why) = c.in-Err.ensures.unfit of in (input, read, (a, b, verdict), why))
    (λ same.
    let (input, a, b, prefix, rest, read, verdict, drawable, picture, left, appends) = c.in-Err.ensures.prefix (ap Err same) in
    (input, prefix, rest, read, (a, b, verdict), drawable, picture, left, appends))
