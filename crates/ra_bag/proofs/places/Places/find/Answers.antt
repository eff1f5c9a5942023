use Rattle.std.proofs.Common.{sym, true≢false}
use Rattle.ra_bag.proofs.Emptied.{none_is_some}
use Rattle.ra_bag.proofs.places.Places.find.Goals as goal

pub returns-in_err-slot-clause-some : goal.returns-in_err-slot-clause-some
returns-in_err-slot-clause-some c = λ slots told.
    none_is_some c.from_residual.result c.from_residual.ensures (λ there. true≢false (sym ((c.in_err-slot.ensures.some slots told).1 there)))
