use Rattle.std.proofs.Common.{rules, ◌≡◌, ◌+◌, subst}
use Rattle.std.proofs.lemmas.Bool.{false≢true}
use Rattle.ra_stamp.specs.contracts.message.MessagePartialEq.TheImpl.{eq-value}
use Rattle.ra_stamp.proofs.StampLaws.{same_messages}
use Rattle.ra_bag.specs.Places.{Unlearns}
use Rattle.ra_bag.proofs.Told.{tells_less}
use Rattle.ra_bag.proofs.places.Places.is_taken.Goals as goal

pub returns-in-Some : goal.returns-in-Some
returns-in-Some c is_so slots there tells =
    let first : c.remove.new.self.first ≡ c.args.self.now.first = c.in-Some.ensures.0 in
    let is : c.in-Some.number ≡ c.args.self.now.first + c.args.slot = search rules in
    tells_less eq-value.it same_messages c.args.self.now c.remove.new.self slots c.args.message.now c.args.slot
    (subst (λ k. Unlearns eq-value.it c.args.self.now c.args.message.now k c.remove.new.self) is c.in-Some.ensures) there tells

pub returns-in-None : goal.returns-in-None
returns-in-None c is_so slots there tells = absurd (false≢true is_so)
