use Rattle.std.proofs.Common.{rules, ◌≡◌, ◌+◌, ◌<◌, refl, sym}
use Rattle.ra_stamp.proofs.StampLaws.{same_messages}
use Rattle.ra_bag.proofs.Emptied.{out_there, none_is_some}
use Rattle.ra_bag.proofs.Told.{first_told, none_told, number_told}
use Rattle.ra_bag.proofs.places.Places.tell.Goals as goal

pub returns-in_err-entry-clause-some : goal.returns-in_err-entry-clause-some
returns-in_err-entry-clause-some c = λ slots told.
    none_is_some c.from_residual.result c.from_residual.ensures
    (none_told _ same_messages c.args.self.now slots c.args.message.now (sym c.in_err-entry.ensures.value) (told c.requires))

pub returns-in_err-slot-clause-some : goal.returns-in_err-slot-clause-some
returns-in_err-slot-clause-some c = λ slots told.
    let less : c.in_ok-entry.number.now < c.args.self.now.first = search rules in
    absurd (number_told _ same_messages c.args.self.now slots c.args.message.now c.in_ok-entry.number.now
    (sym c.in_ok-entry.ensures.value) less (told c.requires))

pub returns-clause-first : goal.returns-clause-first
returns-clause-first c = λ slots told.
    let is : c.in_ok-entry.number.now ≡ c.args.self.now.first + c.in_ok-slot.slot = search rules in
    first_told _ same_messages c.args.self.now slots c.args.message.now c.in_ok-entry.number.now c.in_ok-slot.slot
    (sym c.in_ok-entry.ensures.value) is (told c.requires)

pub returns-clause-some : goal.returns-clause-some
returns-clause-some c = λ slots told.
    let there = (returns-clause-first c slots told).0 in
    (λ _. out_there slots c.args.message.now c.in_ok-slot.slot there.0 there.1, λ _. refl)
