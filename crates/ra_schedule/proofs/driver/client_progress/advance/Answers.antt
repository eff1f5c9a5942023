use Rattle.std.proofs.Common.{◌≡◌, ◌-◌, ◌||◌, Bool, false, get_or, sym, ap, ◌∙◌}
use Rattle.ra_schedule.specs.declared.driver.client_progress.Progress.{Progress}
use Rattle.ra_schedule.proofs.MovedOn.{moved_on, others_kept, nobody_there, no_number}
use Rattle.ra_schedule.proofs.driver.client_progress.advance.Goals as goal
use Rattle.ra_schedule.proofs.driver.client_progress.advance.Goals.{then-asks, else-asks, else-number-ge1-via-then-number-ge1+else-number-list, else-number-ge1-via-else-number-ge1}

pub returns-after-asks-clause-others : goal.returns-after-asks-clause-others
returns-after-asks-clause-others c k d other = others_kept c.args.list.now c.args.client k d _ c.if-number-ge1.true other

pub returns-after-asks-clause-this : goal.returns-after-asks-clause-this
returns-after-asks-clause-this c k d within at =
    let idle : Progress = record { done = 0; waiting = false } in
    let was = (get_or c.args.list.now (c.args.client - 1) idle).waiting in
    let on : c.if-asks.progress ≡ (c.args.asks || was) =
    elim c.if-asks.branch [
      | then-asks w ↦ w.progress-is ∙ w.if-asks.true ∙ ap (λ (asks : Bool). asks || was) (sym w.if-asks.true)
      | else-asks w ↦ w.progress-is ∙ ap (λ (asks : Bool). asks || was) (sym w.if-asks.false)
    ] in
    moved_on c.args.list.now c.args.client k d idle c.args.asks c.if-asks.progress on c.if-number-ge1.true within at

pub returns-else-number-ge1-clause-this : goal.returns-else-number-ge1-clause-this
returns-else-number-ge1-clause-this c k d within at =
    elim c.else-number-ge1.branch [
      | else-number-ge1-via-then-number-ge1+else-number-list w ↦ absurd (nobody_there c.args.list.now c.args.client k within at w.if-number-list.false)
      | else-number-ge1-via-else-number-ge1 w ↦ absurd (no_number c.args.client k at w.if-number-ge1.false)
    ]
