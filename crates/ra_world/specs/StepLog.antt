-- How a log keeps the moves of a world. It keeps the marks in a list, or no marks at all, and of the steps and the
-- messages it keeps only how many there were. The moves themselves are a ghost list, which does not exist at run time.
-- No public contract speaks of it.
use Rattle.std.specs.Prelude.{◌≡◌, ℕ, ◌*◌, ◌<◌, ◌≤◌, ◌==◌, if◌then◌else◌, List, length, map}
use Rattle.ra_stamp.specs.declared.entry.Mark.{Mark}
use Rattle.ra_node.specs.declared.outcome.Outcome.{Outcome}
use Rattle.ra_world.specs.declared.step.Step.{Step}
use Rattle.ra_world.specs.Traffic.{Move, sent_by, lost_by, repeated_by}
use Rattle.ra_world.specs.Run.{marks_of}
use Rattle.ra_world.specs.Quiet.{requests_in, withdrawn_in}

-- the moves, and how many more marks there is room for
pub record LogState : Type 0 where
  pub moves : List Move
  pub marks_room : ℕ

-- how many more marks there is room for: the room of the list if marks are kept, and otherwise 2^64-1
abbrev pub room_of : ℕ → ℕ → ℕ
room_of keeps spare = if keeps == 1 then spare else 18446744073709551615

-- there is room for one step with this many marks: the number of steps can go up, and the marks have their place
pub record HasRoom (log : LogState) (marks : ℕ) : Type 0 where
  pub for_step : length log.moves < 18446744073709551615
  pub for_marks : marks ≤ log.marks_room

-- a step with what it sent and marked, as a move
abbrev pub move_of : Step × Outcome → Move
move_of made = record { step = made.0; sends = made.1.sends.items; marks = made.1.marks.items }

-- steps with what they sent and marked, as moves
abbrev pub moves_of : List (Step × Outcome) → List Move
moves_of made = map move_of made

-- The log keeps what the moves have; it keeps marks only if it is meant to. The messages sent are at most 2^64-1 times
-- the steps, and so are the requests and the withdrawals.
pub record AreCounted (keeps : ℕ) (moves : List Move) (steps : ℕ) (marks : List Mark)
    (sent requests lost repeated withdrawn : ℕ) : Type 0 where
  pub steps_are : steps ≡ length moves
  pub marks_are : keeps ≡ 1 → marks ≡ marks_of moves
  pub sent_is : sent ≡ length (sent_by moves)
  pub sent_fits : sent ≤ 18446744073709551615 * steps
  pub requests_are : requests ≡ requests_in (marks_of moves)
  pub requests_fit : requests ≤ 18446744073709551615 * steps
  pub lost_are : lost ≡ length (lost_by moves)
  pub repeated_are : repeated ≡ length (repeated_by moves)
  pub withdrawn_are : withdrawn ≡ withdrawn_in (marks_of moves)
  pub withdrawn_fit : withdrawn ≤ 18446744073709551615 * steps
