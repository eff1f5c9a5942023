use Rattle.std.proofs.Common.{◌≡◌, ◌≢◌, ℕ, List, [], flat_map, take, cond, nat_eq, refl, ap, sym, ◌∙◌, arith}
use Rattle.std.proofs.lemmas.Bool.{eq-eqb, eqb-true, false_from_ne_true}
use Rattle.std.proofs.lemmas.List.{take_all}
use Rattle.ra_text.specs.Lines.{mark_line}
use Rattle.ra_text.specs.Drafting.{Adds}
use Rattle.ra_text.proofs.Drafts.{adds_nothing, adds_as, adds_to, adds_both}
use Rattle.ra_world.specs.Lines.{withdrawn_line, report_text}
use Rattle.ra_world.proofs.StateTexts.{next_item}
use Rattle.ra_world.proofs.text.lines.report_text.Goals as goal
use Rattle.ra_world.proofs.text.lines.report_text.Goals.{then-report-ne0, else-report-ne0}

-- a line that is printed unless a number is 0
line_there : (k : ℕ) (line : List ℕ) → k ≢ 0 → cond (nat_eq k 0) [] line ≡ line
line_there k line some = ap (λ b. cond b [] line) (false_from_ne_true (nat_eq k 0) (λ t. some (eqb-true k 0 t)))

no_line : (k : ℕ) (line : List ℕ) → k ≡ 0 → cond (nat_eq k 0) [] line ≡ []
no_line k line none = ap (λ b. cond b [] line) (eq-eqb k 0 none)

pub loop-mark-init : goal.loop-mark-init
loop-mark-init c = adds_nothing

pub loop-mark-preserved : goal.loop-mark-preserved
loop-mark-preserved c =
    let marks = c.as_slice-marks.result.now in
    let i = c.loop-mark.mark-index in
    adds_as (adds_both c.loop-mark.invariant c.push_mark_line.ensures)
    (next_item mark_line [] (flat_map mark_line (take i marks)) _ marks i c.mark-item.result refl c.loop-mark-test.true c.mark-item.is refl)

pub returns : goal.returns
returns c =
    let report = c.args.report.now in
    let marks = c.as_slice-marks.result.now in
    let all = take_all c.loop-mark.mark-index marks (let past = c.loop-mark-test.false in omega (arith, past)) in
    let last : Adds c.push_total_line-6.new.self (withdrawn_line report.withdrawn) c.if-report-ne0.text = elim c.if-report-ne0.branch [
      | then-report-ne0 w ↦ adds_to w.text-is (adds_as w.push_total_line-then-report-ne0.ensures (sym (line_there report.withdrawn _ w.if-report-ne0.true)))
      | else-report-ne0 w ↦ adds_to w.text-is (adds_as adds_nothing (sym (no_line report.withdrawn _ w.if-report-ne0.false)))
    ] in
    c.finish.ensures.text (report_text report)
    ((adds_both (adds_as c.loop-mark.invariant (ap (flat_map mark_line) (all ∙ c.as_slice-marks.ensures)))
    (adds_both (adds_both (adds_both (adds_both (adds_both (adds_both c.push_total_line.ensures c.push_total_line-2.ensures) c.push_total_line-3.ensures)
    c.push_total_line-4.ensures) c.push_total_line-5.ensures) c.push_total_line-6.ensures) last)).says [] c.new-text.ensures.says)
