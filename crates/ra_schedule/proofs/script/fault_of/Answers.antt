use Rattle.std.proofs.Common.{refl, sym, subst}
use Rattle.std.proofs.lemmas.Bool.{false≢true}
use Rattle.ra_schedule.specs.Script.{IsHeldAfter, Fits}
use Rattle.ra_schedule.proofs.script.fault_of.Goals as goal

pub returns-then-ops-ge-MAX_OPS : goal.returns-then-ops-ge-MAX_OPS
returns-then-ops-ge-MAX_OPS c = c.if-ops-ge-MAX_OPS.true

pub returns-in-Lock : goal.returns-in-Lock
returns-in-Lock c =
    (c.if-ops-ge-MAX_OPS.false, c.in-Lock.name, c.in-Lock.field-1, c.in-Lock.is, c.if-is_held_after.ensures.0 refl)

pub returns-in-Unlock : goal.returns-in-Unlock
returns-in-Unlock c =
    (c.if-ops-ge-MAX_OPS.false, c.in-Unlock.name, c.in-Unlock.is, λ (h : IsHeldAfter c.args.ops.now c.in-Unlock.name). false≢true (c.if-not-is_held_after.ensures.1 h))

pub returns-in_default : goal.returns-in_default
returns-in_default c =
    let not-held = λ (h : IsHeldAfter c.args.ops.now c.in-Lock.name). false≢true (c.if-is_held_after.ensures.1 h) in
    record { room = c.if-ops-ge-MAX_OPS.false; fits = subst (Fits c.args.ops.now) (sym c.in-Lock.is) not-held }

pub returns-in_default-2 : goal.returns-in_default-2
returns-in_default-2 c =
    record { room = c.if-ops-ge-MAX_OPS.false; fits = subst (Fits c.args.ops.now) (sym c.in-Unlock.is) (c.if-not-is_held_after.ensures.0 refl) }
