use Rattle.std.proofs.Common.{Err, refl, ap, inl, inr}
use Rattle.ra_table.proofs.Next.{allows_request, allows_enter}
use Rattle.ra_trace.proofs.marked_table.try_mark.Goals as goal

-- ---- A request

pub returns-in-Ok-clause-tries : goal.returns-in-Ok-clause-tries
returns-in-Ok-clause-tries c = rw c.in-Requested.is c.in-Ok.ensures.ok

pub returns-in-Err-NodeBusy-clause-tries : goal.returns-in-Err-NodeBusy-clause-tries
returns-in-Err-NodeBusy-clause-tries c =
    let arm = c.in-Err-NodeBusy in rw c.in-Requested.is (inl (refl, arm.ensures.node_busy.0 (ap Err arm.field-0-is)))

pub returns-in-Err-NotAbove-clause-tries : goal.returns-in-Err-NotAbove-clause-tries
returns-in-Err-NotAbove-clause-tries c =
    let arm = c.in-Err-NotAbove in
    let not_above = arm.ensures.not_above.0 (ap Err arm.field-0-is) in
    rw c.in-Requested.is (inr (refl, not_above.0, not_above.1))

pub returns-in-Err-Memory-clause-tries : goal.returns-in-Err-Memory-clause-tries
returns-in-Err-Memory-clause-tries c =
    let arm = c.in-Err-Memory in
    rw c.in-Requested.is (refl, (allows_request c.args.table.now c.in-Requested.entry).1 (arm.ensures.allowed.0 arm.field-0-is))

-- ---- A grant

pub returns-in-Ok-enter-clause-tries : goal.returns-in-Ok-enter-clause-tries
returns-in-Ok-enter-clause-tries c = rw c.in-Entered.is c.in-Ok-enter.ensures.ok

pub returns-in-Err-NotWaiting-clause-tries : goal.returns-in-Err-NotWaiting-clause-tries
returns-in-Err-NotWaiting-clause-tries c =
    let arm = c.in-Err-NotWaiting in rw c.in-Entered.is (inl (refl, arm.ensures.not_waiting.0 (ap Err arm.field-0-is)))

pub returns-in-Err-Held-clause-tries : goal.returns-in-Err-Held-clause-tries
returns-in-Err-Held-clause-tries c =
    let arm = c.in-Err-Held in
    let held = arm.ensures.held.0 (ap Err arm.field-0-is) in
    rw c.in-Entered.is (inr (inl (refl, held.0, held.1)))

pub returns-in-Err-Earlier-clause-tries : goal.returns-in-Err-Earlier-clause-tries
returns-in-Err-Earlier-clause-tries c =
    let arm = c.in-Err-Earlier in
    let earlier = arm.ensures.earlier.0 (ap Err arm.field-0-is) in
    rw c.in-Entered.is (inr (inr (refl, earlier.0, earlier.1, earlier.2)))

pub returns-in-Err-Memory-enter-clause-tries : goal.returns-in-Err-Memory-enter-clause-tries
returns-in-Err-Memory-enter-clause-tries c =
    let arm = c.in-Err-Memory-enter in
    rw c.in-Entered.is (refl, (allows_enter c.args.table.now c.in-Entered.entry).1 (arm.ensures.allowed.0 arm.field-0-is))
