use Rattle.std.proofs.Common.{◌≡◌, ◌∙◌, sym, ap, subst}
use Rattle.ra_text.specs.Drafting.{Adds}
use Rattle.ra_text.specs.Lines.{field}
use Rattle.ra_text.proofs.Drafts.{adds_as, adds_both}
use Rattle.ra_schedule.specs.StateText.{op_fields, enabled_word, state_fields}
use Rattle.ra_schedule.proofs.driver.client_state.push_state.Goals as goal
use Rattle.ra_schedule.proofs.driver.client_state.push_state.Goals.{in-Lock, in-Unlock, then-enabled, else-enabled}

pub returns-in-Done : goal.returns-in-Done
returns-in-Done c = adds_as c.push_field.ensures (sym (ap state_fields c.in-Done.is))

pub returns-in-Waits : goal.returns-in-Waits
returns-in-Waits c =
    adds_as (adds_both (adds_both (adds_both c.push_field-in-Waits.ensures (adds_as c.push_field-in-Waits-2.ensures (ap field c.as_str.ensures)))
    (adds_as c.push_field-in-Waits-3.ensures (ap field c.word.ensures))) c.push_number.ensures)
    (sym (ap state_fields c.in-Waits.is))

pub returns-after-enabled : goal.returns-after-enabled
returns-after-enabled c =
    let begun = c.push_field-in-Next.new.self in
    let op : Adds begun (op_fields c.in-Next.op) c.match-op.text =
    elim c.match-op.branch [
      | in-Lock w ↦
          subst (Adds begun (op_fields c.in-Next.op)) (sym w.text-is)
          (adds_as (adds_both (adds_both w.push_field-in-Lock.ensures (adds_as w.push_field-in-Lock-2.ensures (ap field w.as_str-in-Lock.ensures)))
          (adds_as w.push_field-in-Lock-3.ensures (ap field w.word-in-Lock.ensures))) (sym (ap op_fields w.in-Lock.is)))
      | in-Unlock w ↦
          subst (Adds begun (op_fields c.in-Next.op)) (sym w.text-is)
          (adds_as (adds_both w.push_field-in-Unlock.ensures (adds_as w.push_field-in-Unlock-2.ensures (ap field w.as_str-in-Unlock.ensures)))
          (sym (ap op_fields w.in-Unlock.is)))
    ] in
    let word : c.if-enabled.push_field.now ≡ enabled_word c.in-Next.enabled =
    elim c.if-enabled.branch [
      | then-enabled w ↦ ap (λ word. word.now) w.push_field-is ∙ sym (ap enabled_word w.if-enabled.true)
      | else-enabled w ↦ ap (λ word. word.now) w.push_field-is ∙ sym (ap enabled_word w.if-enabled.false)
    ] in
    adds_as (adds_both (adds_both c.push_field-in-Next.ensures op) (adds_as c.push_field-in-Next-2.ensures (ap field word)))
    (sym (ap state_fields c.in-Next.is))
