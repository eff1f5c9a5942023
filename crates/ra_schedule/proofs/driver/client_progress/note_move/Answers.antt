use Rattle.std.proofs.Common.{◌≡◌, ◌⊎◌, ℕ, ◌+◌, ◌∙◌, List, sym, ap, subst, arith, slice_index_or, inl, inr}
use Rattle.ra_stamp.specs.declared.entry.Mark.{Mark}
use Rattle.ra_stamp.specs.declared.message.Message.{Message as Sent}
use Rattle.ra_world.specs.declared.step.Step.{Step}
use Rattle.ra_world.specs.declared.step.Step.TheVariants.{Cancel, Deliver, Lose, Repeat, Forget}
use Rattle.ra_schedule.specs.declared.driver.client_progress.Progress.{Progress}
use Rattle.ra_schedule.specs.Progress.{IsAfterStep, IsAfterMarks}
use Rattle.ra_schedule.proofs.MovedOn.{after_ask, after_leave, IsOfNobody, after_nobody}
use Rattle.ra_schedule.proofs.driver.client_progress.note_move.Goals as goal
use Rattle.ra_schedule.proofs.driver.client_progress.note_move.Goals.{in-Ask, in-Leave, in-Cancel}

-- the steps of the last arm
abbrev IsLastArm : Step → Type 0
IsLastArm step =
    ((node : ℕ) × (client : ℕ) × (name : List ℕ) × (step ≡ Cancel node client name))
    ⊎ (((message : Sent) × (step ≡ Deliver message))
    ⊎ (((message : Sent) × (step ≡ Lose message)) ⊎ (((message : Sent) × (step ≡ Repeat message)) ⊎ ((node : ℕ) × (step ≡ Forget node)))))

nobody : {step : Step} → IsLastArm step → IsOfNobody step
nobody (inl (node, client, name, is)) = subst IsOfNobody (sym is) tt
nobody (inr (inl (message, is))) = subst IsOfNobody (sym is) tt
nobody (inr (inr (inl (message, is)))) = subst IsOfNobody (sym is) tt
nobody (inr (inr (inr (inl (message, is))))) = subst IsOfNobody (sym is) tt
nobody (inr (inr (inr (inr (node, is))))) = subst IsOfNobody (sym is) tt

pub returns : goal.returns
returns c move step marks k d within =
    let old = slice_index_or c.args.list.now k d in
    let between = slice_index_or c.match-step.list k d in
    let moved : IsAfterStep (k + 1) c.args.step.now old between =
    elim c.match-step.branch [
      | in-Ask w ↦
          let is = ap (λ (list : List Progress). slice_index_or list k d) w.list-is in
          after_ask _ _ _ _ _ (k + 1) old between w.in-Ask.is (λ apart. is ∙ w.advance.ensures.others k d apart) (λ same. is ∙ w.advance.ensures.this k d within same)
      | in-Leave w ↦
          let is = ap (λ (list : List Progress). slice_index_or list k d) w.list-is in
          after_leave _ _ _ _ (k + 1) old between w.in-Leave.is (λ apart. is ∙ w.advance-in-Leave.ensures.others k d apart) (λ same. is ∙ w.advance-in-Leave.ensures.this k d within same)
      | in-Cancel w ↦ after_nobody _ (k + 1) old between (nobody w.in-Cancel.is) (ap (λ (list : List Progress). slice_index_or list k d) w.list-is)
    ] in (
      between,
      subst (λ (s : Step). IsAfterStep (k + 1) s old between) (sym step) moved,
      subst (λ (ms : List Mark). IsAfterMarks (k + 1) ms between (slice_index_or c.note_marks.new.list k d)) (sym marks)
          (c.note_marks.ensures k d (omega (arith, c.match-step.auto.list))),
    )
