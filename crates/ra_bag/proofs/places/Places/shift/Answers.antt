use Rattle.std.proofs.Common.{length, sym, ap, subst}
use Rattle.ra_stamp.specs.contracts.message.MessagePartialEq.TheImpl.{eq-value}
use Rattle.ra_bag.specs.Places.{Has, numbers_of}
use Rattle.ra_bag.proofs.places.Places.shift.Goals as goal

pub returns-in-Some : goal.returns-in-Some
returns-in-Some c = λ slots told known message.
    subst (λ first. Has eq-value.it c.args.self.now message (numbers_of (eq-value.it message) first slots)) (sym c.in-Some.ensures.1) (told known message)

-- nothing is known any more
pub returns-in-None : goal.returns-in-None
returns-in-None c = λ slots told known. absurd (known (ap length c.forget.ensures.numbers))
