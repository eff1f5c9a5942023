-- The arguments that ask to settle books.
use Rattle.std.proofs.Common.{◌≡◌, ◌∙◌, List, Option, Some, sym}
use Rattle.std.proofs.lemmas.Option.{same_Some}
use Rattle.clap.specs.Words.{Text}
use Rattle.ra_arguments.specs.declared.settle_arguments.SettleTask.{SettleTask}
use Rattle.ra_arguments.specs.Arguments.{AreNodeArguments}
use Rattle.ra_arguments.specs.SettleArguments.{AreSettleArguments, AsksToSettle, settling_of}

-- they are those of no other command
pub no_node_arguments : (arguments : List Text) → AreSettleArguments arguments → AreNodeArguments arguments → ⊥
no_node_arguments arguments (asked, asks) (name, is) = let none = rw is at asks in cc

-- and they ask for one thing
pub one_thing : (arguments : List Text) (a b : SettleTask) → AsksToSettle arguments a → AsksToSettle arguments b → a ≡ b
one_thing arguments a b first second = same_Some a b (sym first ∙ second)

-- arguments that are found to ask for nothing do not ask
pub none_asked : (arguments : List Text) (found : Option SettleTask) → found ≡ settling_of arguments → ((asked : SettleTask) → found ≡ Some asked → ⊥)
    → AreSettleArguments arguments → ⊥
none_asked arguments found is other (asked, asks) = other asked (is ∙ asks)
