use Rattle.std.proofs.Common.{◌≡◌, Some, sym, ap, ◌∙◌, subst}
use Rattle.std.specs.Map.{lookup}
use Rattle.ra_stamp.specs.contracts.message.MessagePartialEq.TheImpl.{eq-value}
use Rattle.ra_stamp.proofs.StampLaws.{same_messages}
use Rattle.ra_bag.proofs.places.number_in.Goals as goal

pub returns-then-eq-clause-at : goal.returns-then-eq-clause-at
returns-then-eq-clause-at c =
    sym c.in_ok-kept.ensures.entry ∙ ap (λ m. Some (m, c.in_ok-kept.number.now)) ((same_messages c.in_ok-kept.kept.now c.args.message.now).0 (sym c.if-eq.ensures))

pub returns-then-eq-clause-found : goal.returns-then-eq-clause-found
returns-then-eq-clause-found c =
    subst (λ m. lookup (eq-value.it m) c.args.numbers.now.entries ≡ Some c.in_ok-kept.number.now) ((same_messages c.in_ok-kept.kept.now c.args.message.now).0 (sym c.if-eq.ensures))
    c.in_ok-kept.ensures.value
