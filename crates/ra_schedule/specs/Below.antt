-- What the laws of runs say, as far as schedules depend on it.
use Rattle.std.specs.Prelude.{◌≡◌, ◌↔◌, ℕ, List, [], ◌∷◌, ◌++◌, map}
use Rattle.ra_stamp.specs.declared.message.Message.{Message}
use Rattle.ra_stamp.specs.NodeId.{IsNodeNumber}
use Rattle.ra_stamp.specs.declared.mode.Mode.{Mode}
use Rattle.ra_world.specs.declared.step.Step.TheVariants.{Ask, Leave, Deliver, Lose, Repeat}
use Rattle.ra_world.specs.Traffic.{Move, LeavesUnderWay, IsUnderWay}
use Rattle.ra_world.specs.Run.{IsRun, GoesOn, events_at}

-- the laws of runs and of the messages under way after them, which the laws of schedules depend on
pub record LawsBelow : Type 0 where
  pub prefixes : (n start : ℕ) (prefix rest : List Move) → IsRun n start (prefix ++ rest) → IsRun n start prefix
  pub determined : (n start : ℕ) (a b : List Move) → IsNodeNumber n → IsRun n start a → IsRun n start b
      → map (λ move. move.step) a ≡ map (λ move. move.step) b → a ≡ b
  pub one_list : (moves : List Move) (a b : List Message)
      → LeavesUnderWay moves a → LeavesUnderWay moves b → a ≡ b
  pub a_list : (n start : ℕ) (moves : List Move) → IsNodeNumber n → IsRun n start moves
      → (left : List Message) × LeavesUnderWay moves left
  pub deliver : (n start : ℕ) (moves : List Move) → IsNodeNumber n → IsRun n start moves
      → (message : Message) → GoesOn n start moves (Deliver message) ↔ IsUnderWay moves message
  pub lose : (n start : ℕ) (moves : List Move) → IsNodeNumber n → IsRun n start moves
      → (message : Message) → GoesOn n start moves (Lose message) ↔ IsUnderWay moves message
  pub repeat : (n start : ℕ) (moves : List Move) → IsNodeNumber n → IsRun n start moves
      → (message : Message) → GoesOn n start moves (Repeat message) ↔ IsUnderWay moves message
  pub ask_stays : (n start : ℕ) (moves : List Move) (move : Move) → IsNodeNumber n → IsRun n start (moves ++ move ∷ [])
      → (node client : ℕ) (name : List ℕ) (mode : Mode) → events_at node move.step ≡ []
      → GoesOn n start moves (Ask node client name mode)
      ↔ GoesOn n start (moves ++ move ∷ []) (Ask node client name mode)
  pub leave_stays : (n start : ℕ) (moves : List Move) (move : Move) → IsNodeNumber n
      → IsRun n start (moves ++ move ∷ [])
      → (node client : ℕ) (name : List ℕ) → events_at node move.step ≡ []
      → GoesOn n start moves (Leave node client name) ↔ GoesOn n start (moves ++ move ∷ []) (Leave node client name)
