-- Which policy a name means.
use Rattle.std.specs.Prelude.{◌≡◌, ℕ, List, Some}
use Rattle.ra_stamp.specs.Sequence.{Listed as Listing}
use Rattle.ra_schedule.specs.declared.choice.Choice.{Choice}
use Rattle.ra_schedule.specs.declared.choice.Policy.{Policy}
use Rattle.ra_schedule.specs.declared.choice.Policy.TheVariants as policies
use Rattle.ra_schedule.specs.ChoicesText.{choices_of}
use Rattle.ra_arguments.specs.declared.command_line.PolicyName.{PolicyName}
use Rattle.ra_arguments.specs.declared.command_line.PolicyName.TheVariants.{Oldest, Newest, Seeded, Faulty, Listed}

-- the policy that this name means, with its seed and its faults, or with the choices in this text
abbrev pub IsNamed : PolicyName → List ℕ → Policy → Type 0
IsNamed Oldest text policy = policy ≡ policies.Oldest
IsNamed Newest text policy = policy ≡ policies.Newest
IsNamed (Seeded seed) text policy = policy ≡ policies.Seeded seed
IsNamed (Faulty seed faults) text policy = policy ≡ policies.Faulty seed faults
IsNamed Listed text policy = (choices : Listing Choice) × (choices_of text ≡ Some choices.items)
    × (policy ≡ policies.Listed choices)
