-- What `perform`, `perform_as` and `perform_trace` make of their input.
use Rattle.std.specs.Prelude.{◌≡◌, ◌≢◌, ◌⊎◌, ℕ, ◌<◌, ◌≤◌, List, [], ◌++◌, length, Bool, Option, IfSome, Result, Ok, Err, IfOk, IfErr, IsErrOf, IsTrue, codes}
use Rattle.std.specs.Io.KnownBytes.{Consumes, Appends}
use Rattle.ra_stamp.specs.Sequence.{Listed as Listing}
use Rattle.ra_world.specs.declared.text.report.Report.{Report}
use Rattle.ra_world.specs.Traffic.{Move, repeated_by}
use Rattle.ra_world.specs.Lines.{report_text}
use Rattle.ra_schedule.specs.declared.choice.Choice.{Choice}
use Rattle.ra_schedule.specs.declared.choice.Policy.{Policy}
use Rattle.ra_schedule.specs.declared.error.DriveError.{DriveError}
use Rattle.ra_schedule.specs.declared.error.DriveError.TheVariants.{TurnLimit}
use Rattle.ra_schedule.specs.Drive.{IsWholeRun}
use Rattle.ra_schedule.specs.Listing.{AreChoicesBy, AreChoicesOf}
use Rattle.ra_schedule.specs.LockOrder.{IsOutOfOrder, IsUnreleased}
use Rattle.ra_schedule.specs.Performing.{ChoosesItself, LosesNothing}
use Rattle.ra_schedule.specs.Script.{ScriptState}
use Rattle.ra_schedule.specs.Shrinking.{IsStuckRun, IsLeastOf}
use Rattle.ra_schedule.specs.Schedule.{Follows, Ends, Stops, RepeatsNothing}
use Rattle.ra_schedule.specs.StateText.{ShowsState}
use Rattle.ra_trace.specs.declared.line.version.Version.TheVariants.{ThreeWithSends}
use Rattle.ra_trace.specs.TraceText.{IsTrace, IsTraceIn}
use Rattle.ra_script.specs.declared.output_kind.OutputKind.{OutputKind}
use Rattle.ra_script.specs.declared.output_kind.OutputKind.TheVariants.{Lines, Trace, TraceWithSends, Choices, Shrunk, State}
use Rattle.ra_schedule.specs.ChoicesText.{Lists}
use Rattle.ra_script.specs.declared.error.ScriptError.TheVariants as script_fault
use Rattle.ra_script.specs.declared.error.PerformError.{PerformError}
use Rattle.ra_script.specs.declared.error.PerformError.TheVariants as fault
use Rattle.ra_script.specs.ScriptText.{script_of}

-- the most turns that a script may take: 16,777,216
abbrev pub turn_limit : ℕ
turn_limit = 16777216

-- the output is one line, the words of the policy's choices, which by themselves make these moves again
pub record SaysChoices (policy : Policy) (script : ScriptState) (moves : List Move) (output : List ℕ) : Type 0 where
  pub choices : Listing Choice
  pub by : AreChoicesBy script policy choices.items moves
  pub are : AreChoicesOf script choices moves
  pub text : List ℕ
  pub lists : Lists text choices.items
  pub line : output ≡ text ++ codes "\n"

-- the output is one line: the words of the least list of choices that was found if this run is stuck, and otherwise
-- `none`
abbrev pub SaysShrunk : ScriptState → List Move → List ℕ → Type 0
SaysShrunk script moves output =
    ((choices : Listing Choice) × (text : List ℕ) × IsStuckRun script moves × IsLeastOf script moves choices
    × Lists text choices.items × (output ≡ text ++ codes "\n"))
    ⊎ ((IsStuckRun script moves → ⊥) × (output ≡ codes "none\n"))

-- what the output says of a policy's run of a script: the lines of its report, its trace without or with the messages
-- sent, its choices, what it is shrunk to, or the state at its end
abbrev pub Says : OutputKind → Policy → ScriptState → List Move → Report → List ℕ → Type 0
Says Lines policy script moves report output = output ≡ report_text report
Says Trace policy script moves report output = IsTrace script.nodes 0 moves output
Says TraceWithSends policy script moves report output = IsTraceIn ThreeWithSends script.nodes 0 moves output
Says Choices policy script moves report output = SaysChoices policy script moves output
Says Shrunk policy script moves report output = SaysShrunk script moves output
Says State policy script moves report output = ShowsState script moves output

-- The output shows in this format the run of the script that the input is, under this policy, which was followed to
-- its end. `finished` says whether this run is finished.
pub record IsPerformedAs (format : OutputKind) (policy : Policy) (input output : List ℕ)
    (finished : Bool) : Type 0 where
  pub script : ScriptState
  pub script_is : script_of input ≡ Ok script
  pub moves : List Move
  pub report : Report
  pub run : IsWholeRun script policy turn_limit moves report finished
  pub says : Says format policy script moves report output

-- the policy's run repeats a message, and a repeat has no word
pub record HasNoWords (policy : Policy) (input : List ℕ) : Type 0 where
  pub script : ScriptState
  pub script_is : script_of input ≡ Ok script
  pub moves : List Move
  pub follows : Follows script policy moves
  pub ends : Ends script policy moves
  pub repeats : repeated_by moves ≢ []

-- the policy's run is stuck, and a least run to which it is shrunk repeats a message, for which there is no word
pub record ShrinksToRepeat (policy : Policy) (input : List ℕ) : Type 0 where
  pub script : ScriptState
  pub script_is : script_of input ≡ Ok script
  pub moves : List Move
  pub follows : Follows script policy moves
  pub ends : Ends script policy moves
  pub stuck : IsStuckRun script moves
  pub choices : Listing Choice
  pub least : IsLeastOf script moves choices
  pub repeats : repeated_by least.moves ≢ []

-- choices are to be written, and one of them has no word
abbrev pub Unwritten : OutputKind → Policy → List ℕ → Type 0
Unwritten Lines policy input = ⊥
Unwritten Trace policy input = ⊥
Unwritten TraceWithSends policy input = ⊥
Unwritten Choices policy input = HasNoWords policy input
Unwritten Shrunk policy input = ShrinksToRepeat policy input
Unwritten State policy input = ⊥

-- when each refusal may come: its cause applies. `Memory` and faults of the reader and the writer come from outside,
-- but the writer fails only if there is something to write.
abbrev pub RefusesAs : OutputKind → Policy → List ℕ → PerformError → Type 0
RefusesAs format policy input fault.Read = Unit {0}
RefusesAs format policy input (fault.Script why) = (why ≢ script_fault.Memory) × (script_of input ≡ Err why)
RefusesAs format policy input (fault.Drive cause) = (script : ScriptState) × (moves : List Move)
    × (script_of input ≡ Ok script)
    × Follows script policy moves × Stops script policy turn_limit moves cause
RefusesAs format policy input fault.Choice = Unwritten format policy input
RefusesAs format policy input fault.Memory = Unit {0}
RefusesAs format policy input fault.Write = (output : List ℕ) × (finished : Bool)
    × IsPerformedAs format policy input output finished × (output ≢ [])

-- ---- Waiting ends

-- the input is a script whose clients take names in ascending order and give them all back
pub record IsOrderly (input : List ℕ) : Type 0 where
  pub script : ScriptState
  pub script_is : script_of input ≡ Ok script
  pub in_order : IsOutOfOrder script → ⊥
  pub released : IsUnreleased script → ⊥

-- Whatever the script, a policy that repeats no message never comes to the limit of turns, and one that also chooses by
-- itself is refused no turn. If a policy chooses by itself, loses no message, and the input is orderly, then an answer,
-- if there is one, is that its run is finished.
pub record BringsToEnd (policy : Policy) (known : Option (List ℕ)) (result : Result Bool PerformError) : Type 0 where
  pub below_limit : RepeatsNothing policy → IsErrOf result (fault.Drive TurnLimit) → ⊥
  pub every_turn : RepeatsNothing policy → ChoosesItself policy → (cause : DriveError)
      → IsErrOf result (fault.Drive cause) → ⊥
  pub finished : LosesNothing policy → ChoosesItself policy
      → IfSome known (λ input. IsOrderly input → IfOk result IsTrue)

-- ---- The answer

-- The answer of each of the three, which write the run of a script in this format. `old` and `new` are what is left in
-- the reader before and after it, and `before` and `after` what the writer contains, if they tell. `Untouched` says
-- that the writer is as before.
pub record PerformsScript (format : OutputKind) (policy : Policy) (old new before after : Option (List ℕ))
    (Untouched : Type 0)
    (result : Result Bool PerformError) : Type 0 where
  -- a script is read to its end, and only its output is written
  pub ok : IfOk result
      (λ finished. IfSome old (λ input. (output : List ℕ) × IsPerformedAs format policy input output finished
      × Consumes old new input × Appends before after output))
  pub refused : IfErr result (λ why. IfSome old (λ input. RefusesAs format policy input why))
  -- if the reader tells nothing of its input, this still holds of some input
  pub performed : IfOk result (λ finished. (input output : List ℕ) × IsPerformedAs format policy input output finished
      × Appends before after output)
  pub cause : IfErr result (λ why. (input : List ℕ) × RefusesAs format policy input why)
  pub waiting_ends : BringsToEnd policy old result
  pub unwritten : IfErr result (λ why. why ≢ fault.Write → Untouched)
  -- a fault of the writer comes only with something left to write
  pub prefix : IsErrOf result fault.Write → IfSome old (λ input. (written rest : List ℕ) × (finished : Bool)
      × IsPerformedAs format policy input (written ++ rest) finished × (rest ≢ []) × Appends before after written)
  pub failed : IsErrOf result fault.Read → (taken : List ℕ) × (length taken < 65537) × Consumes old new taken
  pub at_most : (taken : List ℕ) × (length taken ≤ 65537) × Consumes old new taken
