use Rattle.std.proofs.Common.{drop, sym, ◌∙◌}
use Rattle.ra_trace.specs.Forms.{forms}
use Rattle.ra_trace.proofs.Deliveries.{form, by_form, by_others}
use Rattle.ra_trace.proofs.line.forms.read_end_line.Goals as goal

pub returns-in-Some : goal.returns-in-Some
returns-in-Some c =
    c.read.ensures
    ∙ sym (by_form (form 16) (drop 17 forms) c.args.text.now c.in-Some.rest.now c.in-Some.ensures)

pub returns-in-Some-rest_after : goal.returns-in-Some-rest_after
returns-in-Some-rest_after c =
    c.read-in-Some-rest_after.ensures
    ∙ sym (by_others (form 16) (drop 17 forms) c.args.text.now c.in_default.ensures
    ∙ by_form (form 17) (drop 18 forms) c.args.text.now c.in-Some-rest_after.rest.now c.in-Some-rest_after.ensures)

pub returns-in-Some-rest_after-2 : goal.returns-in-Some-rest_after-2
returns-in-Some-rest_after-2 c =
    c.read-in-Some-rest_after-2.ensures
    ∙ sym (by_others (form 16) (drop 17 forms) c.args.text.now c.in_default.ensures
    ∙ by_others (form 17) (drop 18 forms) c.args.text.now c.in_default-rest_after.ensures
    ∙ by_form (form 18) (drop 19 forms) c.args.text.now c.in-Some-rest_after-2.rest.now c.in-Some-rest_after-2.ensures)

pub returns-in-Some-rest_after-3 : goal.returns-in-Some-rest_after-3
returns-in-Some-rest_after-3 c =
    c.read-in-Some-rest_after-3.ensures
    ∙ sym (by_others (form 16) (drop 17 forms) c.args.text.now c.in_default.ensures
    ∙ by_others (form 17) (drop 18 forms) c.args.text.now c.in_default-rest_after.ensures
    ∙ by_others (form 18) (drop 19 forms) c.args.text.now c.in_default-rest_after-2.ensures
    ∙ by_form (form 19) (drop 20 forms) c.args.text.now c.in-Some-rest_after-3.rest.now c.in-Some-rest_after-3.ensures)

pub returns : goal.returns
returns c =
    sym (by_others (form 16) (drop 17 forms) c.args.text.now c.in_default.ensures
    ∙ by_others (form 17) (drop 18 forms) c.args.text.now c.in_default-rest_after.ensures
    ∙ by_others (form 18) (drop 19 forms) c.args.text.now c.in_default-rest_after-2.ensures
    ∙ by_others (form 19) (drop 20 forms) c.args.text.now c.in_default-rest_after-3.ensures)
