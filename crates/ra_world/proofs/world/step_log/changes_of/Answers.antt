use Rattle.std.proofs.Common.{arith, ◌+◌, ap, ◌∙◌}
use Rattle.std.proofs.lemmas.List.{take_all}
use Rattle.ra_world.specs.Quiet.{requests_in, withdrawn_in}
use Rattle.ra_world.proofs.LogCounts.{one_request, one_withdrawal, neither, requests_in-take, requests_in-take-le, withdrawn_in-take, withdrawn_in-take-le}
use Rattle.ra_world.proofs.world.step_log.changes_of.Goals as goal
use Rattle.ra_world.proofs.world.step_log.changes_of.Goals.{in-Requested, in-Withdrawn, in_default}

pub overflow_add-requests : goal.overflow_add-requests
overflow_add-requests c =
    let marks = c.args.marks.now in
    let i = c.loop-mark.mark-index in
    let one = one_request c.mark-item.result _ c.in-Requested.is in
    omega (arith, c.loop-mark.invariant.requests, one.0, requests_in-take marks i c.mark-item.result c.loop-mark-test.true c.mark-item.is, requests_in-take-le marks (i + 1))

pub overflow_add-withdrawn : goal.overflow_add-withdrawn
overflow_add-withdrawn c =
    let marks = c.args.marks.now in
    let i = c.loop-mark.mark-index in
    let one = one_withdrawal c.mark-item.result _ c.in-Withdrawn.is in
    omega (arith, c.loop-mark.invariant.withdrawn, one.1, withdrawn_in-take marks i c.mark-item.result c.loop-mark-test.true c.mark-item.is, withdrawn_in-take-le marks (i + 1))

pub loop-mark-preserved : goal.loop-mark-preserved
loop-mark-preserved c =
    let mark = c.mark-item.result in
    let made = requests_in-take c.args.marks.now c.loop-mark.mark-index mark c.loop-mark-test.true c.mark-item.is in
    let undone = withdrawn_in-take c.args.marks.now c.loop-mark.mark-index mark c.loop-mark-test.true c.mark-item.is in
    elim c.match-mark.branch [
      | in-Requested w ↦ let one = one_request mark _ w.in-Requested.is in
          record { requests = omega (arith, c.loop-mark.invariant.requests, made, w.requests-is, one.0); withdrawn = omega (arith, c.loop-mark.invariant.withdrawn, undone, w.withdrawn-is, one.1) }
      | in-Withdrawn w ↦ let one = one_withdrawal mark _ w.in-Withdrawn.is in
          record { requests = omega (arith, c.loop-mark.invariant.requests, made, w.requests-is, one.0); withdrawn = omega (arith, c.loop-mark.invariant.withdrawn, undone, w.withdrawn-is, one.1) }
      | in_default w ↦ let none = neither mark w.in_default.not-Requested w.in_default.not-Withdrawn in
          record { requests = omega (arith, c.loop-mark.invariant.requests, made, w.requests-is, none.0); withdrawn = omega (arith, c.loop-mark.invariant.withdrawn, undone, w.withdrawn-is, none.1) }
    ]

pub returns-clause-requests : goal.returns-clause-requests
returns-clause-requests c = c.loop-mark.invariant.requests ∙ ap requests_in (take_all c.loop-mark.mark-index c.args.marks.now c.loop-mark-test.false)

pub returns-clause-withdrawn : goal.returns-clause-withdrawn
returns-clause-withdrawn c = c.loop-mark.invariant.withdrawn ∙ ap withdrawn_in (take_all c.loop-mark.mark-index c.args.marks.now c.loop-mark-test.false)
