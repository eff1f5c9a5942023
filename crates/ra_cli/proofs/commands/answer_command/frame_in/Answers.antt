use Rattle.std.proofs.Common.{refl}
use Rattle.std.proofs.lemmas.Result.{err_from_is_err_and}
use Rattle.ra_cli.specs.Answer.{Spells}
use Rattle.ra_cli.proofs.AnswerCallLemmas.{no_bytes, of_frame}
use Rattle.ra_cli.proofs.commands.answer_command.frame_in.Goals as goal

pub returns-in_err-bytes : goal.returns-in_err-bytes
returns-in_err-bytes c =
    let p = err_from_is_err_and c.from_residual.result c.from_residual.ensures.1 in
    rw (p.1, p.2) (no_bytes c.args.input.now c.in-Some.digits.now _ c.in-Some.ensures.some c.in_err-bytes.ensures.err)

pub returns : goal.returns
returns c =
    let wrong = rw c.deref.ensures.value at (c.in-Err.ensures.fault c.in-Err.fault).0 refl in
    let spells : Spells c.args.input.now c.in_ok-bytes.bytes.items =
    (c.in-Some.digits.now, c.in-Some.ensures.some, c.in_ok-bytes.ensures.ok) in
    ((λ node nodes member. (member, c.in_ok-bytes.bytes.items, spells, wrong)), of_frame c.in-Err.fault)

pub returns-in-Ok : goal.returns-in-Ok
returns-in-Ok c =
    let spells : Spells c.args.input.now c.in_ok-bytes.bytes.items =
    (c.in-Some.digits.now, c.in-Some.ensures.some, c.in_ok-bytes.ensures.ok) in
    ((c.in_ok-bytes.bytes.items, spells, rw c.deref.ensures.value at c.in-Ok.ensures.found), c.in-Ok.ensures.fits)
