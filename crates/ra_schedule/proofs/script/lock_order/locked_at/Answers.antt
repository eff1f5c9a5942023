use Rattle.ra_schedule.proofs.LockPlaces.{lock_found, unlock_found, nothing_found}
use Rattle.ra_schedule.proofs.script.lock_order.locked_at.Goals as goal

pub returns-in_err-name-clause-none : goal.returns-in_err-name-clause-none
returns-in_err-name-clause-none c none name locks = nothing_found c.args.ops.now c.args.place name c.in_err-name.ensures.lookup.0 locks

pub returns-in-Lock-clause-some : goal.returns-in-Lock-clause-some
returns-in-Lock-clause-some c =
    lock_found c.args.ops.now c.args.place c.in_ok-name.field-0.now c.in-Lock.name c.in-Lock.field-1 c.in_ok-name.ensures.lookup.0
    c.in_ok-name.ensures.lookup.1 c.in-Lock.is

pub returns-in-Unlock-clause-none : goal.returns-in-Unlock-clause-none
returns-in-Unlock-clause-none c none name locks =
    unlock_found c.args.ops.now c.args.place c.in_ok-name.field-0.now c.in-Unlock.field-0 name c.in_ok-name.ensures.lookup.0
    c.in_ok-name.ensures.lookup.1 c.in-Unlock.is locks
