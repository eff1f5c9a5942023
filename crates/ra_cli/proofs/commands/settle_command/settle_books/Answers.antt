use Rattle.std.proofs.Common.{ℕ, List, Err, ap, subst, arith}
use Rattle.ra_cli.specs.declared.error.SettleFault.TheVariants.{Limit}
use Rattle.ra_cli.specs.SettleRun.{TellsSettled}
use Rattle.ra_cli.proofs.SettleRuns.{of_fault, refuses, served, unread}
use Rattle.ra_cli.proofs.commands.settle_command.settle_books.Goals as goal

pub returns : goal.returns
returns g c =
    let before = g.W.Write.contents c.args.writer.now in
    let after = g.W.Write.contents c.settle_input-outcome.new.writer in
    let status = c.settle_input-outcome.result.status in
    served c.args.asked c.in-Ok.input.items (g.R.Read.remaining c.args.reader.now) (g.R.Read.remaining c.read_up_to.new.reader) before after status
    c.in-Ok.ensures.bytes (omega (arith, c.if-len-gt-MAX_TEXT.false, c.len.ensures))
    (subst (λ (bytes : List ℕ). TellsSettled c.args.asked bytes before after status) c.deref.ensures.value c.settle_input-outcome.ensures)

pub returns-in-Err : goal.returns-in-Err
returns-in-Err g c =
    let status = c.refuse.result.status in
    let why = c.from.result in
    unread c.args.asked why _ _ _ _ status (refuses why _ _ _ status c.refuse.ensures)
    (rw c.from.ensures (of_fault _ _ c.in-Err.fault (λ is. c.in-Err.ensures.failed (ap Err is))))

pub returns-then-len-gt-MAX_TEXT : goal.returns-then-len-gt-MAX_TEXT
returns-then-len-gt-MAX_TEXT g c =
    let status = c.refuse-then-len-gt-MAX_TEXT.result.status in
    unread c.args.asked Limit _ _ _ _ status (refuses Limit _ _ _ status c.refuse-then-len-gt-MAX_TEXT.ensures)
    (c.in-Ok.input.items, c.in-Ok.ensures.bytes.taken, omega (arith, c.if-len-gt-MAX_TEXT.true, c.len.ensures))
