-- What the driver keeps of a policy from turn to turn. No public contract speaks of it.
use Rattle.std.specs.Prelude.{◌≡◌, ℕ, List, length, Option, Some, None, option_map}
use Rattle.ra_stamp.specs.declared.entry.Mark.{Mark}
use Rattle.ra_world.specs.declared.step.Step.{Step}
use Rattle.ra_world.specs.Traffic.{Move}
use Rattle.rand_pcg.specs.Lcg.{Lcg}
use Rattle.ra_schedule.specs.declared.choice.Choice.{Choice}
use Rattle.ra_schedule.specs.declared.choice.Choice.TheVariants.{Client, Message, Lost, Repeated}
use Rattle.ra_schedule.specs.declared.choice.Policy.{Policy}
use Rattle.ra_schedule.specs.declared.choice.Policy.TheVariants.{Oldest, Newest, Seeded, Faulty, Listed}
use Rattle.ra_schedule.specs.declared.choice.random_state.RandomState.{RandomState}
use Rattle.ra_schedule.specs.Script.{ScriptState}
use Rattle.ra_schedule.specs.Schedule.{steps_of, words_by}
use Rattle.ra_schedule.specs.Seeds.{generator_after}
use Rattle.ra_schedule.specs.Enabled.{AreFlags, AreFlagsElsewhere, AreNodeClients, CountsFlags}

-- the generator of a policy after it has given this many words, if the policy has one
abbrev pub generator_at : Policy → ℕ → Option Lcg
generator_at Oldest words = None
generator_at Newest words = None
generator_at (Seeded seed) words = Some (generator_after seed words)
generator_at (Faulty seed faults) words = Some (generator_after seed words)
generator_at (Listed choices) words = None

-- how many words a policy has drawn after these moves
abbrev pub words_drawn : Policy → List Move → ℕ
words_drawn Oldest moves = 0
words_drawn Newest moves = 0
words_drawn (Seeded seed) moves = length moves
words_drawn (Faulty seed faults) moves = words_by (steps_of moves)
words_drawn (Listed choices) moves = 0

-- how many words chance with faults draws for a choice
abbrev pub words_of : Choice → ℕ
words_of (Client client) = 1
words_of (Message place) = 2
words_of (Lost place) = 2
words_of (Repeated place) = 2

-- how many words a policy draws for a choice that it makes
abbrev pub words_for : Policy → Choice → ℕ
words_for Oldest choice = 0
words_for Newest choice = 0
words_for (Seeded seed) choice = 1
words_for (Faulty seed faults) choice = words_of choice
words_for (Listed choices) choice = 0

-- a choice that a word names, before a fault befalls it: a client, or a message to deliver
abbrev pub IsWithoutFault : Choice → Type 0
IsWithoutFault (Client client) = Unit {0}
IsWithoutFault (Message place) = Unit {0}
IsWithoutFault (Lost place) = ⊥
IsWithoutFault (Repeated place) = ⊥

-- the generator with which chance chooses, if it does
abbrev pub generator_in : Option RandomState → Option Lcg
generator_in random = option_map (λ d. d.generator) random

-- chance knows the clients of each node, and which are enabled after these moves
pub record IsRandomState (script : ScriptState) (moves : List Move) (random : RandomState) : Type 0 where
  pub node_clients : AreNodeClients script random.node_clients.items
  pub flags : AreFlags script moves random.enabled.flags.items
  pub counted : CountsFlags script random.enabled

-- the same, except that chance has not looked yet at the clients at the node of a step and at those that entered by its
-- marks
pub record IsRandomStateElsewhere (step : Step) (marks : List Mark) (script : ScriptState) (moves : List Move)
    (random : RandomState) : Type 0 where
  pub node_clients : AreNodeClients script random.node_clients.items
  pub flags : AreFlagsElsewhere step marks script moves random.enabled.flags.items
  pub counted : CountsFlags script random.enabled
