use Rattle.std.proofs.Common.{◌≡◌, ◌+◌, take, arith, List, sym, subst, ◌∙◌, ap, inl, inr, ◌++◌, ◌∷◌, [], slice_index_or}
use Rattle.std.proofs.lemmas.Bool.{cases_eq}
use Rattle.std.proofs.lemmas.List.{take_all, take_more}
use Rattle.ra_stamp.specs.declared.entry.Mark.{Mark}
use Rattle.ra_schedule.specs.declared.driver.client_progress.Progress.{Progress}
use Rattle.ra_schedule.specs.Schedule.{Enters}
use Rattle.ra_schedule.specs.Progress.{IsAfterMarks}
use Rattle.ra_schedule.proofs.Waiting.{other_mark, own_mark, no_entry}
use Rattle.ra_schedule.proofs.driver.client_progress.note_marks.Goals as goal
use Rattle.ra_schedule.proofs.driver.client_progress.note_marks.Goals.{in-Entered, in_default}

pub loop-mark-preserved : goal.loop-mark-preserved
loop-mark-preserved c k d within =
    let marks = c.args.marks.now in
    let i = c.loop-mark.mark-index in
    let mark = c.mark-item.result in
    let old = slice_index_or c.args.list.now k d in
    let between = slice_index_or c.loop-mark.list k d in
    let new = slice_index_or c.match-mark.list k d in
    let more : take (i + 1) marks ≡ take i marks ++ mark ∷ [] =
    take_more marks i mark c.loop-mark-test.true ∙ ap (λ (m : Mark). take i marks ++ m ∷ []) (sym c.mark-item.is) in
    let so_far = c.loop-mark.invariant k d within in
    let done : IsAfterMarks (k + 1) (take i marks ++ mark ∷ []) old new =
    elim c.match-mark.branch [
      | in-Entered w ↦
          let entry = w.in-Entered.entry in
          elim (cases_eq (k + 1) entry.client) [
            | inl same ↦
                let within' = w.stop_waiting.ensures.this k d (omega (arith, c.loop-mark.auto.list)) same in
                let is = ap (λ (list : List Progress). slice_index_or list k d) w.list-is ∙ within' in
                own_mark (k + 1) (take i marks) mark old between new
                (subst (λ (m : Mark). Enters (k + 1) m) (sym w.in-Entered.is) (sym same)) so_far is
            | inr apart ↦
                let is = ap (λ (list : List Progress). slice_index_or list k d) w.list-is ∙ w.stop_waiting.ensures.others k d apart in
                subst (λ (p : Progress). IsAfterMarks (k + 1) (take i marks ++ mark ∷ []) old p) (sym is)
                (other_mark (k + 1) (take i marks) mark old between
                (λ h. apart (sym (subst (λ (m : Mark). Enters (k + 1) m) w.in-Entered.is h))) so_far)
          ]
      | in_default w ↦
          let is = ap (λ (list : List Progress). slice_index_or list k d) w.list-is in
          subst (λ (p : Progress). IsAfterMarks (k + 1) (take i marks ++ mark ∷ []) old p) (sym is)
          (other_mark (k + 1) (take i marks) mark old between (no_entry (k + 1) mark w.in_default.not-Entered) so_far)
    ] in
    subst (λ (ms : List Mark). IsAfterMarks (k + 1) ms old new) (sym more) done

pub returns : goal.returns
returns c k d within =
    subst (λ (ms : List Mark). IsAfterMarks (k + 1) ms (slice_index_or c.args.list.now k d) (slice_index_or c.loop-mark.list k d))
    (take_all c.loop-mark.mark-index c.args.marks.now (let past = c.loop-mark-test.false in omega (arith, past))) (c.loop-mark.invariant k d within)
