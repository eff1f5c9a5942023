-- The choices of a run.
use Rattle.std.specs.Prelude.{◌≡◌, List, ◌∷◌, ◌++◌, length, slice_get, Some}
use Rattle.ra_stamp.specs.Sequence.{Listed as Listing}
use Rattle.ra_world.specs.Traffic.{Move}
use Rattle.ra_schedule.specs.declared.choice.Choice.{Choice}
use Rattle.ra_schedule.specs.declared.choice.Policy.{Policy}
use Rattle.ra_schedule.specs.declared.choice.Policy.TheVariants.{Listed}
use Rattle.ra_schedule.specs.Script.{ScriptState}
use Rattle.ra_schedule.specs.Schedule.{StandsFor, Picks, Follows, Ends}

-- one choice for each move: what the policy chose before that move, and it means the step of that move
pub record AreChoicesBy (script : ScriptState) (policy : Policy) (choices : List Choice)
    (moves : List Move) : Type 0 where
  pub one_each : length choices ≡ length moves
  pub each : (before after : List Move) (move : Move) → moves ≡ before ++ move ∷ after
      → (choice : Choice) × (slice_get choices (length before) ≡ Some choice)
      × Picks script policy before choice × StandsFor script before choice move.step

-- these choices, one after the other, make these moves, and then no choice is left
abbrev pub AreChoicesOf : ScriptState → Listing Choice → List Move → Type 0
AreChoicesOf script choices moves = Follows script (Listed choices) moves × Ends script (Listed choices) moves
