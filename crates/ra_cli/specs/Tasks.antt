-- What it means that a task is done as it is: an answer for these nodes, a run by this policy in this format, a survey
-- of these seeds with these faults, a verdict on a trace or on a mark log, a picture of this part, or what is to be
-- printed of a run by threads. A text of help is none of these: it is only printed, as `DoesCommand` says.
use Rattle.std.specs.Prelude.{◌≡◌, ◌≤◌, ◌⊎◌, ℕ, List, Bool, true, false, Option, None, IfSome, IsSome, codes}
use Rattle.std.specs.Io.KnownBytes.{Consumes, Appends}
use Rattle.ra_stamp.specs.Member.{IsMember}
use Rattle.ra_schedule.specs.declared.choice.Policy.{Policy}
use Rattle.ra_schedule.specs.ChoicesText.{choices_of}
use Rattle.ra_schedule.specs.declared.error.ChoicesError.{ChoicesError}
use Rattle.ra_schedule.specs.declared.error.ChoicesError.TheVariants.{Choice}
use Rattle.ra_script.specs.declared.error.PerformError.{PerformError}
use Rattle.ra_script.specs.declared.error.PerformError.TheVariants as perform
use Rattle.ra_script.specs.declared.output_kind.OutputKind.{OutputKind}
use Rattle.ra_script.specs.Performed.{IsPerformedAs, RefusesAs}
use Rattle.ra_trace.specs.declared.error.TraceError.{TraceError}
use Rattle.ra_draw.specs.declared.error.DrawError.{DrawError}
use Rattle.ra_text.specs.declared.drawn_part.Part.{Part}
use Rattle.ra_draw.specs.Drawing.{IsInput}
use Rattle.ra_cli.specs.Answer.{IsAnswered, Refuses}
use Rattle.ra_cli.specs.Checks.{Checks, ChecksKind, ChecksMarks, IsVerdictText, RefusesCheck, RefusesCheckOfKind, RefusesCheckOfMarks, most_followed}
use Rattle.ra_cli.specs.WrongLineChecks.{ChecksAllLines, IsTextOfLines, RefusesAllLines}
use Rattle.ra_cli.specs.ClusterRun.{IsClusterRun, RunsCluster, RefusesRun}
use Rattle.ra_cli.specs.InputOutput.{BreaksOff, OfInput, StopsBefore}
use Rattle.ra_cli.specs.Performs.{PerformsBy}
use Rattle.ra_arguments.specs.Named.{IsNamed}
use Rattle.ra_cli.specs.Pictures.{IsDrawing, IsNotDrawn, RefusesPart, Shows}
use Rattle.ra_cli.specs.Refusals.{IsOfReader, IsOfWriter, refused_line, word_of}
use Rattle.ra_cli.specs.Surveyed.{IsTold, SurveysBy, RefusesSurvey}
use Rattle.ra_arguments.specs.declared.command_line.PolicyName.{PolicyName}
use Rattle.ra_arguments.specs.declared.command_line.Task.{Task}
use Rattle.ra_arguments.specs.declared.command_line.Task.TheVariants as task
use Rattle.ra_cli.specs.declared.error.AnswerError.{AnswerError}
use Rattle.ra_cli.specs.declared.error.AnswerError.TheVariants as answer
use Rattle.ra_cli.specs.declared.error.RunScriptError.{RunScriptError}
use Rattle.ra_cli.specs.declared.error.RunScriptError.TheVariants as run
use Rattle.ra_arguments.specs.declared.command_line.input_kind.InputKind.{InputKind}
use Rattle.ra_arguments.specs.declared.command_line.input_kind.InputKind.TheVariants as reads
use Rattle.ra_cli.specs.declared.refusal_lines.CommandRefusal.{CommandRefusal}
use Rattle.ra_cli.specs.declared.refusal_lines.CommandRefusal.TheVariants as refusal

-- ---- What is read and written

-- the node is one of the nodes, and it answered the input, if that is known: the input was read to its end, and exactly
-- the answer was written
abbrev pub AnswersAs : (node nodes : ℕ) → (old new before after : Option (List ℕ)) → Type 0
AnswersAs node nodes old new before after = IsMember node nodes × IfSome old (λ input. (output : List ℕ)
    × IsAnswered node nodes input output × Consumes old new input × Appends before after output)

-- the choices are a list of choices, and the input was performed under the policy of this name, with these choices if
-- it is `listed`, and written in this format
abbrev pub PerformsNamed : PolicyName → (choices : List ℕ) → OutputKind → (old new before after : Option (List ℕ))
    → Bool → Type 0
PerformsNamed name choices format old new before after finished = IsSome (choices_of choices)
    × (policy : Policy) × IsNamed name choices policy × PerformsBy policy format old new before after finished

-- the input is of this kind and was read to its end, this part of it has 1 to 4,096 lines, and a picture was written
abbrev pub DrawsPart : InputKind → Part → (old new before after : Option (List ℕ)) → Type 0
DrawsPart kind part old new before after = (input : List ℕ) × IsInput old new input × Shows kind part input before after

-- ---- Statuses 0 and 3

-- status 0: what the task asks for was done
abbrev pub IsDoneBy : Task → (old new before after : Option (List ℕ)) → Type 0
IsDoneBy (task.Answer node nodes) old new before after = AnswersAs node nodes old new before after
IsDoneBy (task.Sim policy choices format) old new before after =
    PerformsNamed policy choices.now format old new before after true
IsDoneBy (task.Survey survey) old new before after = SurveysBy survey old new before after true
IsDoneBy (task.Check complete form) old new before after = Checks 16777216 complete form old new before after true
IsDoneBy (task.CheckMarks complete form) old new before after = ChecksMarks 16777216 complete form old new before after true
IsDoneBy (task.Follow kind every complete form) old new before after =
    ChecksKind kind most_followed complete form old new before after true
IsDoneBy (task.CheckAll complete) old new before after = ChecksAllLines complete old new before after true
IsDoneBy (task.Draw kind part) old new before after = DrawsPart kind part old new before after
IsDoneBy (task.Cluster printed) old new before after = RunsCluster printed old new before after
IsDoneBy (task.Help text) old new before after = ⊥

-- status 3: a run ended with something left to do, or the input is not the trace or the log that it should be, or is
-- not complete though it has to be
abbrev pub IsLeftBy : Task → (old new before after : Option (List ℕ)) → Type 0
IsLeftBy (task.Answer node nodes) old new before after = ⊥
IsLeftBy (task.Sim policy choices format) old new before after =
    PerformsNamed policy choices.now format old new before after false
IsLeftBy (task.Survey survey) old new before after = SurveysBy survey old new before after false
IsLeftBy (task.Check complete form) old new before after = Checks 16777216 complete form old new before after false
IsLeftBy (task.CheckMarks complete form) old new before after = ChecksMarks 16777216 complete form old new before after false
IsLeftBy (task.Follow kind every complete form) old new before after =
    ChecksKind kind most_followed complete form old new before after false
IsLeftBy (task.CheckAll complete) old new before after = ChecksAllLines complete old new before after false
IsLeftBy (task.Draw kind part) old new before after = IsNotDrawn kind old new before after
IsLeftBy (task.Cluster printed) old new before after = ⊥
IsLeftBy (task.Help text) old new before after = ⊥

-- the text is what the task prints of an input with one of these two statuses
abbrev pub IsPrintedBy : Task → (input text : List ℕ) → Type 0
IsPrintedBy (task.Answer node nodes) input text = IsAnswered node nodes input text
IsPrintedBy (task.Sim name choices format) input text =
    (policy : Policy) × (finished : Bool) × IsNamed name choices.now policy
    × IsPerformedAs format policy input text finished
IsPrintedBy (task.Survey survey) input text = (finished : Bool) × IsTold survey input text finished
IsPrintedBy (task.Check complete form) input text = IsVerdictText reads.Trace complete form input text
IsPrintedBy (task.CheckMarks complete form) input text = IsVerdictText reads.Marks complete form input text
IsPrintedBy (task.Follow kind every complete form) input text = IsVerdictText kind complete form input text
IsPrintedBy (task.CheckAll complete) input text = IsTextOfLines complete input text
IsPrintedBy (task.Draw kind part) input text = IsDrawing kind part input text
IsPrintedBy (task.Cluster printed) input text = IsClusterRun printed input text
IsPrintedBy (task.Help shown) input text = ⊥

-- ---- Status 2

-- why a run under a policy is refused: the choices are not a list of choices, or the run under it is refused
abbrev pub RefusesNamed : PolicyName → (choices : List ℕ) → OutputKind → (old new : Option (List ℕ)) → CommandRefusal
    → Type 0
RefusesNamed name choices format old new why =
    ((fault : ChoicesError) × (why ≡ refusal.Choices fault) × (fault ≡ Choice → choices_of choices ≡ None))
    ⊎ ((fault : PerformError) × (why ≡ refusal.Perform fault) × (fault ≡ perform.Read → StopsBefore 65537 old new)
    × (policy : Policy) × IsNamed name choices policy × OfInput old (λ input. RefusesAs format policy input fault))

-- Why a task is refused. Memory runs out, and the reader and the writer fail, for causes from outside. But the reader
-- fails only before it gave all that may be taken.
abbrev pub IsCauseFor : Task → (old new : Option (List ℕ)) → CommandRefusal → Type 0
IsCauseFor (task.Answer node nodes) old new why = (fault : AnswerError) × (why ≡ refusal.Answer fault)
    × (fault ≡ answer.Read → StopsBefore 258 old new) × OfInput old (λ input. Refuses node nodes input fault)
IsCauseFor (task.Sim policy choices format) old new why = RefusesNamed policy choices.now format old new why
IsCauseFor (task.Survey survey) old new why = (fault : RunScriptError) × (why ≡ refusal.Survey fault)
    × (fault ≡ run.Read → StopsBefore 65537 old new) × IfSome old (λ input. RefusesSurvey survey input fault)
IsCauseFor (task.Check complete form) old new why = (fault : TraceError) × (why ≡ refusal.Check fault)
    × RefusesCheck 16777216 old new fault
IsCauseFor (task.CheckMarks complete form) old new why = (fault : TraceError) × (why ≡ refusal.Check fault)
    × RefusesCheckOfMarks 16777216 old new fault
IsCauseFor (task.Follow kind every complete form) old new why = (fault : TraceError) × (why ≡ refusal.Check fault)
    × RefusesCheckOfKind kind most_followed old new fault
IsCauseFor (task.CheckAll complete) old new why = (fault : TraceError) × (why ≡ refusal.Check fault)
    × RefusesAllLines old new fault
IsCauseFor (task.Draw kind part) old new why = (fault : DrawError) × (why ≡ refusal.Draw fault)
    × RefusesPart kind part old new fault
IsCauseFor (task.Cluster printed) old new why = (fault : RunScriptError) × (why ≡ refusal.Cluster fault)
    × (fault ≡ run.Read → StopsBefore 65537 old new) × IfSome old (λ input. RefusesRun input fault)
IsCauseFor (task.Help text) old new why = ⊥

-- status 2: only the line of a refusal was written, for such a cause, which is not a failure of the reader or the
-- writer
abbrev pub IsRefusedBy : Task → (old new before after : Option (List ℕ)) → Type 0
IsRefusedBy asked old new before after = (why : CommandRefusal) × (IsOfReader why → ⊥) × (IsOfWriter why → ⊥)
    × Appends before after (refused_line (word_of why)) × IsCauseFor asked old new why

-- ---- Status 1

-- it was refused because the reader failed, and the line that says so was written
abbrev pub IsUnreadBy : Task → (old new before after : Option (List ℕ)) → Type 0
IsUnreadBy asked old new before after = (why : CommandRefusal) × IsOfReader why × IsCauseFor asked old new why
    × Appends before after (codes "refused Read\n")

-- the writer failed at the line of a refusal, and only a prefix of that was written
abbrev pub IsUnsaidBy : Task → (old new before after : Option (List ℕ)) → Type 0
IsUnsaidBy asked old new before after = (why : CommandRefusal) × (IsOfWriter why → ⊥) × IsCauseFor asked old new why
    × BreaksOff (refused_line (word_of why)) before after

-- the writer failed at what is printed of this input, and only a prefix of that was written
abbrev pub IsCutBy : Task → (input : List ℕ) → (before after : Option (List ℕ)) → Type 0
IsCutBy asked input before after = (text : List ℕ) × IsPrintedBy asked input text × BreaksOff text before after

-- one of the three; the last is only said of an input that is known
abbrev pub IsBrokenBy : Task → (old new before after : Option (List ℕ)) → Type 0
IsBrokenBy asked old new before after = IsUnreadBy asked old new before after ⊎ IsUnsaidBy asked old new before after
    ⊎ IfSome old (λ input. IsCutBy asked input before after)

-- ---- The outcome

-- What a task did that ended with this status. `old` and `new` are what is left in the reader before and after it,
-- and `before` and `after` what the writer contains, if they tell.
pub record Does (asked : Task) (old new before after : Option (List ℕ)) (status : ℕ) : Type 0 where
  pub range : status ≤ 3
  pub done : status ≡ 0 → IsDoneBy asked old new before after
  pub unfinished : status ≡ 3 → IsLeftBy asked old new before after
  pub refused : status ≡ 2 → IsRefusedBy asked old new before after
  pub broken : status ≡ 1 → IsBrokenBy asked old new before after
