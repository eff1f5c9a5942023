-- What of a run was made and written down. No public contract speaks of it.
use Rattle.std.specs.Prelude.{◌≡◌, ℕ, List, [], ◌++◌, All, Result, Ok, Err, map, flat_map}
use Rattle.ra_stamp.specs.NodeId.{IsNodeNumber}
use Rattle.ra_world.specs.declared.error.RunError.TheVariants as run
use Rattle.ra_world.specs.declared.step.Step.{Step}
use Rattle.ra_world.specs.Refused.{IsRefusedAt}
use Rattle.ra_world.specs.Run.{IsRun, WorldRun}
use Rattle.ra_world.specs.Traffic.{Move}
use Rattle.ra_world.specs.World.{WorldState}
use Rattle.ra_text.specs.Drafting.{Says}
use Rattle.ra_text.specs.declared.draft.Draft.{Draft}
use Rattle.ra_trace.specs.declared.error.WriteTraceError.{WriteTraceError}
use Rattle.ra_trace.specs.declared.error.WriteTraceError.TheVariants.{Run, Memory, Write}
use Rattle.ra_trace.specs.declared.line.Line.TheVariants.{First}
use Rattle.ra_trace.specs.declared.line.version.Version.{Version}
use Rattle.ra_trace.specs.declared.line.version.Version.TheVariants.{One, Two, Three, ThreeWithSends}
use Rattle.ra_trace.specs.Version.{TellsSends}
use Rattle.ra_trace.specs.Ranges.{StepFits, MarkFits, MessageFits}
use Rattle.ra_trace.specs.TraceText.{line_text, move_lines, plain_version, IsTraceIn}

-- a run of these steps can be written in this version, which has them all
abbrev pub CanWrite : Version → List Step → Type 0
CanWrite One steps = ⊥
CanWrite Two steps = plain_version steps ≡ Two
CanWrite Three steps = Unit {0}
CanWrite ThreeWithSends steps = Unit {0}

-- the step of the move fits, and so does each of its marks, and of the messages that it sends if the version tells them
abbrev pub MoveFits : Version → Move → Type 0
MoveFits version move = StepFits move.step × All MarkFits move.marks × (TellsSends version → All MessageFits move.sends)

-- the text of all lines but the last
abbrev pub prefix_text : Version → ℕ → ℕ → List Move → List ℕ
prefix_text version n start moves =
    line_text (First version n start) ++ flat_map line_text (flat_map (move_lines version) moves)

-- the world of these nodes has made these steps and no others, and the text is the trace of its moves in this version
-- without the last line, unless memory ran out for some part of it
pub record HasTraced (version : Version) (n start : ℕ) (steps : List Step) (world : WorldState)
    (text : Draft) : Type 0 where
  pub number : IsNodeNumber n
  pub count : world.count ≡ n
  pub start_is : world.start ≡ start
  pub made : map (λ (move : Move). move.step) world.moves ≡ steps
  pub run : IsRun n start world.moves
  pub says : Says text (prefix_text version n start world.moves)
  pub fit : All (MoveFits version) world.moves

-- the world of these nodes has made no step
pub record IsOpened (n start : ℕ) (world : WorldState) : Type 0 where
  pub number : IsNodeNumber n
  pub is : world ≡ record { count = n; start = start; moves = [] }
  pub run : IsRun world.count world.start world.moves

-- the world was made, or it was not, since it cannot have this many nodes, or for lack of memory
abbrev pub OpensWorld : ℕ → ℕ → Result WorldState WriteTraceError → Type 0
OpensWorld n start (Ok world) = IsOpened n start world
OpensWorld n start (Err (Run run.BadCount)) = IsNodeNumber n → ⊥
OpensWorld n start (Err (Run (run.Refused place cause))) = ⊥
OpensWorld n start (Err (Run run.Memory)) = ⊥
OpensWorld n start (Err Memory) = (IsNodeNumber n → ⊥) → ⊥
OpensWorld n start (Err Write) = ⊥

-- why no more of these steps were made
abbrev pub StopsIn : ℕ → ℕ → List Step → WriteTraceError → Type 0
StopsIn n start steps (Run run.BadCount) = ⊥
StopsIn n start steps (Run (run.Refused place cause)) =
    IsRefusedAt n start steps place cause × (WorldRun n start steps → ⊥)
StopsIn n start steps (Run run.Memory) = ⊥
StopsIn n start steps Memory = Unit {0}
StopsIn n start steps Write = ⊥

-- the steps `made` were made and written; or no more were made, since one of all `steps` was refused or memory ran out
abbrev pub Traces : Version → ℕ → ℕ → List Step → List Step → WorldState → Draft → Result (Unit {0}) WriteTraceError
    → Type 0
Traces version n start made steps world text (Ok done) = HasTraced version n start made world text
Traces version n start made steps world text (Err fault) = StopsIn n start steps fault

-- the trace of these steps was written, unless memory ran out for some part of it; or no more were made, since one of
-- them was refused or memory ran out
abbrev pub Written : Version → ℕ → ℕ → List Step → Draft → Result (Unit {0}) WriteTraceError → Type 0
Written version n start steps text (Ok done) =
    (moves : List Move) × (bytes : List ℕ) × (map (λ (move : Move). move.step) moves ≡ steps)
    × IsTraceIn version n start moves bytes × Says text bytes
Written version n start steps text (Err fault) = StopsIn n start steps fault
