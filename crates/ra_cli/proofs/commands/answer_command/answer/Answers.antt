use Rattle.std.proofs.Common.{Err, ap, refl}
use Rattle.std.proofs.lemmas.Result.{err_from_is_err_and}
use Rattle.ra_cli.proofs.AnswerCallLemmas.{no_member, no_input, no_answer, not_written, written}
use Rattle.ra_cli.proofs.commands.answer_command.answer.Goals as goal

pub returns-in_err-me : goal.returns-in_err-me
returns-in_err-me g c =
    let p = err_from_is_err_and c.from_residual.result c.from_residual.ensures.1 in
    rw (p.1, p.2) (no_member c.args.node c.args.nodes _ _ _ _ _ c.in_err-me.ensures.err c.in_err-me.ensures.early refl refl)

pub returns-in_err-input : goal.returns-in_err-input
returns-in_err-input g c =
    let p = err_from_is_err_and c.from_residual-in_err-input.result c.from_residual-in_err-input.ensures.1 in
    let me = c.in_ok-me.ensures.ok in
    rw (p.1) (no_input c.args.node c.args.nodes _ _ _ _ _ c.in_err-input.field-0.0 p.0 (rw (me.0, me.1) at me.2) p.2
    (λ fault. c.in_err-input.ensures.failed (ap Err fault)) c.in_err-input.ensures.at_most refl)

pub returns-in_err-output : goal.returns-in_err-output
returns-in_err-output g c =
    let p = err_from_is_err_and c.from_residual-in_err-output.result c.from_residual-in_err-output.ensures.1 in
    let me = c.in_ok-me.ensures.ok in
    let refuses = rw (c.deref.ensures.value, me.0, me.1) at c.in_err-output.ensures.0 in
    rw (p.1, p.2) (no_answer c.args.node c.args.nodes _ _ _ _ _ c.in_ok-input.input.items _ (rw (me.0, me.1) at me.2) c.in_ok-input.ensures.bytes refuses
    c.in_err-output.ensures.1 refl)

pub returns : goal.returns
returns g c =
    let me = c.in_ok-me.ensures.ok in
    let answered = rw (c.deref.ensures.value, me.0, me.1) at c.in_ok-output.ensures in
    let left = rw c.deref-2.ensures.value at c.in-Err.ensures.err in
    not_written c.args.node c.args.nodes _ _ _ _ _ _ c.in_ok-input.input.items c.in_ok-output.output.items left.0 left.1
    c.in_ok-input.ensures.bytes answered left.2 left.3 left.4

pub returns-in-Ok : goal.returns-in-Ok
returns-in-Ok g c =
    let me = c.in_ok-me.ensures.ok in
    let answered = rw (c.deref.ensures.value, me.0, me.1) at c.in_ok-output.ensures in
    let appends = rw c.deref-2.ensures.value at c.in-Ok.ensures.ok in
    written c.args.node c.args.nodes _ _ _ _ _ _ c.in_ok-input.input.items c.in_ok-output.output.items _ (rw (me.0, me.1) at me.2)
    c.in_ok-input.ensures.bytes answered appends
