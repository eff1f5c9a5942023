use Rattle.std.proofs.Common.{drop, sym, ◌∙◌, ◌++◌}
use Rattle.std.specs.Prelude.{codes}
use Rattle.ra_trace.specs.Forms.{forms}
use Rattle.ra_trace.proofs.Deliveries.{form, by_form, by_others, delivered, not_delivered}
use Rattle.ra_trace.proofs.line.forms.read_line_without_mark.Goals as goal

pub returns-in-Some : goal.returns-in-Some
returns-in-Some c =
    c.read.ensures
    ∙ sym (by_form (form 3) (drop 4 forms) c.args.text.now c.in-Some.rest.now c.in-Some.ensures)

pub returns-in-Some-rest_after : goal.returns-in-Some-rest_after
returns-in-Some-rest_after c =
    c.read-in-Some-rest_after.ensures
    ∙ sym (by_others (form 3) (drop 4 forms) c.args.text.now c.in_default.ensures
    ∙ by_form (form 4) (drop 5 forms) c.args.text.now c.in-Some-rest_after.rest.now c.in-Some-rest_after.ensures)

-- nothing is delivered
pub returns-in_default-rest_after-2 : goal.returns-in_default-rest_after-2
returns-in_default-rest_after-2 c =
    let none = not_delivered c.args.text.now c.in_default-rest_after-2.ensures in
    c.read_rare_line.ensures
    ∙ sym (by_others (form 3) (drop 4 forms) c.args.text.now c.in_default.ensures
    ∙ by_others (form 4) (drop 5 forms) c.args.text.now c.in_default-rest_after.ensures
    ∙ by_others (form 5) (drop 6 forms) c.args.text.now none.0
    ∙ by_others (form 6) (drop 7 forms) c.args.text.now none.1)

-- ---- Something is

pub returns-in-Some-rest_after-3 : goal.returns-in-Some-rest_after-3
returns-in-Some-rest_after-3 c =
    let message = c.in-Some-rest_after-2.message.now in
    c.read-in-Some-rest_after-3.ensures
    ∙ sym (delivered c.args.text.now message c.in-Some-rest_after-2.ensures
    ∙ by_form (form 5) (drop 6 forms) (codes "deliver " ++ message) c.in-Some-rest_after-3.rest.now c.in-Some-rest_after-3.ensures)

pub returns-in-Some-rest_after-4 : goal.returns-in-Some-rest_after-4
returns-in-Some-rest_after-4 c =
    let message = c.in-Some-rest_after-2.message.now in
    c.read-in-Some-rest_after-4.ensures
    ∙ sym (delivered c.args.text.now message c.in-Some-rest_after-2.ensures
    ∙ by_others (form 5) (drop 6 forms) (codes "deliver " ++ message) c.in_default-rest_after-3.ensures
    ∙ by_form (form 6) (drop 7 forms) (codes "deliver " ++ message) c.in-Some-rest_after-4.rest.now c.in-Some-rest_after-4.ensures)

pub returns : goal.returns
returns c =
    let message = c.in-Some-rest_after-2.message.now in
    sym (delivered c.args.text.now message c.in-Some-rest_after-2.ensures
    ∙ by_others (form 5) (drop 6 forms) (codes "deliver " ++ message) c.in_default-rest_after-3.ensures
    ∙ by_others (form 6) (drop 7 forms) (codes "deliver " ++ message) c.in_default-rest_after-4.ensures)
