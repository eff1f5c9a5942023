use Rattle.std.proofs.Common.{Ok, Err}
use Rattle.std.proofs.lemmas.Result.{err_from_is_err_and}
use Rattle.ra_schedule.proofs.Spelled.{lists, only_choices}
use Rattle.ra_schedule.proofs.choice.choices_reading.read_choices.Goals as goal

pub returns-in_err-push_choices-clause-refused : goal.returns-in_err-push_choices-clause-refused
returns-in_err-push_choices-clause-refused c =
    let p = err_from_is_err_and c.from_residual.result c.from_residual.ensures.1 in rw (p.1, p.2) c.in_err-push_choices.ensures.err

pub returns-in_err-push_choices-clause-memory : goal.returns-in_err-push_choices-clause-memory
returns-in_err-push_choices-clause-memory c =
    let p = err_from_is_err_and c.from_residual.result c.from_residual.ensures.1 in rw (p.1, p.2) c.in_err-push_choices.ensures.memory

pub returns-in_err-push_choices-clause-only : goal.returns-in_err-push_choices-clause-only
returns-in_err-push_choices-clause-only c =
    let p = err_from_is_err_and c.from_residual.result c.from_residual.ensures.1 in
    rw (p.1, p.2) (only_choices c.args.text.now (Err c.in_err-push_choices.field-0.0) tt c.in_err-push_choices.ensures.err)

pub returns-clause-lists : goal.returns-clause-lists
returns-clause-lists c = lists c.args.text.now c.push_choices.new.choices.items c.in_ok-push_choices.ensures.ok

pub returns-clause-only : goal.returns-clause-only
returns-clause-only c = only_choices c.args.text.now (Ok c.push_choices.new.choices) c.in_ok-push_choices.ensures.ok tt
