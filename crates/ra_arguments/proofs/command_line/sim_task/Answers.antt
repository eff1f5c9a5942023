use Rattle.std.proofs.Common.{◌∙◌, Some, codes, refl, sym, ap}
use Rattle.std.proofs.lemmas.Result.{err_from_is_err_and}
use Rattle.clap.specs.Words.{Text, found_of}
use Rattle.ra_arguments.specs.Meanings.{sim}
use Rattle.ra_arguments.proofs.Reading.{none_given, run_refused, run_taken, run_untold, text_given, text_or_nothing}
use Rattle.ra_arguments.proofs.command_line.sim_task.Goals as goal

pub returns-in_err-format : goal.returns-in_err-format
returns-in_err-format c =
    let p = err_from_is_err_and c.from_residual.result c.from_residual.ensures.1 in
    rw (p.1, p.2) (rw (← c.in-Some.ensures, ← c.in_err-format.ensures) refl)

pub returns-in_err-survey : goal.returns-in_err-survey
returns-in_err-survey c =
    let seeds = text_given (found_of c.args.sim.now) (codes "seeds") c.in-Some-get_str.seeds.now c.in-Some-get_str.ensures in
    let p = err_from_is_err_and c.from_residual-in_err-survey.result c.from_residual-in_err-survey.ensures.1 in
    rw (p.1, p.2) (rw (← c.in-Some.ensures, ← c.in_ok-format.ensures, seeds, ← c.ending_of-ending.ensures, ← c.form_of-form.ensures, ← c.in_err-survey.ensures) refl)

pub returns-in-Some-get_str : goal.returns-in-Some-get_str
returns-in-Some-get_str c =
    let seeds = text_given (found_of c.args.sim.now) (codes "seeds") c.in-Some-get_str.seeds.now c.in-Some-get_str.ensures in
    rw (← c.in-Some.ensures, ← c.in_ok-format.ensures, seeds, ← c.ending_of-ending.ensures, ← c.form_of-form.ensures, ← c.in_ok-survey.ensures) refl

pub returns-then-is_some : goal.returns-then-is_some
returns-then-is_some c =
    let seeds = none_given (found_of c.args.sim.now) (codes "seeds") c.in_default-get_str.ensures in
    rw (← c.in-Some.ensures, ← c.in_ok-format.ensures, seeds, ← c.ending_of-ending.ensures)
    (run_refused c.in-Some.policy _ c.in_ok-format.format c.ending_of-ending.result _ (sym c.is_some.ensures ∙ c.if-is_some.true))

pub returns-in-Json : goal.returns-in-Json
returns-in-Json c =
    let seeds = none_given (found_of c.args.sim.now) (codes "seeds") c.in_default-get_str.ensures in
    rw (← c.in-Some.ensures, ← c.in_ok-format.ensures, seeds, ← c.ending_of-ending.ensures, ← c.form_of-form.ensures)
    (run_untold c.in-Some.policy _ c.in_ok-format.format c.ending_of-ending.result c.form_of-form.result (sym c.is_some.ensures ∙ c.if-is_some.false) c.in-Json.is)

pub returns : goal.returns
returns c =
    let seeds = none_given (found_of c.args.sim.now) (codes "seeds") c.in_default-get_str.ensures in
    let chosen = ap (λ (text : _). text.now) c.unwrap_or-choices.ensures ∙ text_or_nothing (found_of c.args.sim.now) (codes "choices") c.get_str-2.result _ c.get_str-2.ensures refl in
    rw (
      ← c.in-Some.ensures,
      ← c.in_ok-format.ensures,
      seeds,
      ← c.ending_of-ending.ensures,
      ← c.form_of-form.ensures,
      run_taken c.in-Some.policy _ c.in_ok-format.format c.ending_of-ending.result c.form_of-form.result (sym c.is_some.ensures ∙ c.if-is_some.false) c.in_default-form.not-Json,
    )
    (ap (λ (text : Text). Some (sim c.in-Some.policy text c.in_ok-format.format)) (sym chosen))
