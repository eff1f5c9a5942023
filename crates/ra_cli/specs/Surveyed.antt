-- What `ra sim --seeds` does.
use Rattle.std.specs.Prelude.{◌≡◌, ◌↔◌, ◌⊎◌, ℕ, List, [], ◌++◌, Bool, true, false, IsTrue, Option, Some, None, IfSome, MatchOption, Ok, Err, codes, decimal}
use Rattle.std.specs.Io.KnownBytes.{Consumes, Appends}
use Rattle.ra_text.specs.Lines.{field}
use Rattle.ra_schedule.specs.declared.surveys.seed_outcomes.Spread.{Spread}
use Rattle.ra_schedule.specs.declared.surveys.seed_outcomes.Survey.{Survey}
use Rattle.ra_schedule.specs.declared.surveys.seed_outcomes.Tally.{Tally}
use Rattle.ra_schedule.specs.declared.surveys.first_seed.Ending.{Ending}
use Rattle.ra_schedule.specs.declared.surveys.first_seed.Ending.TheVariants.{Finished, Stuck}
use Rattle.ra_schedule.specs.Script.{ScriptState}
use Rattle.ra_schedule.specs.Survey.{IsSurvey}
use Rattle.ra_script.specs.Finding.{IsFirstRun, IsFirstUnwritten, NoneEndsSo}
use Rattle.ra_script.specs.Performed.{turn_limit}
use Rattle.ra_script.specs.ScriptText.{script_of}
use Rattle.ra_cli.specs.declared.error.RunScriptError.{RunScriptError}
use Rattle.ra_cli.specs.declared.error.RunScriptError.TheVariants as fault
use Rattle.ra_json.specs.Surveys.{survey_line}
use Rattle.ra_arguments.specs.declared.form.Form.{Form}
use Rattle.ra_arguments.specs.declared.form.Form.TheVariants.{Json, Words}
use Rattle.ra_arguments.specs.declared.command_line.search.Search.{Search}
use Rattle.ra_arguments.specs.declared.command_line.search.SurveyTask.{SurveyTask}

-- the line of an end: how many seeds came to it, and the first of them; no line if no seed did
abbrev pub tally_line : List ℕ → Option Tally → List ℕ
tally_line word None = []
tally_line word (Some tally) =
    word ++ field (decimal tally.seeds) ++ field (codes "first") ++ field (decimal tally.first) ++ codes "\n"

-- the line of a figure: the least and the greatest value; no line if the figure does not exist
abbrev pub spread_line : List ℕ → Option Spread → List ℕ
spread_line word None = []
spread_line word (Some spread) = word ++ field (decimal spread.least) ++ field (decimal spread.most) ++ codes "\n"

-- the lines of a survey: three for the ends, and two for the figures
abbrev pub survey_text : Survey → List ℕ
survey_text survey =
    tally_line (codes "finished") survey.finished
    ++ tally_line (codes "stuck") survey.stuck
    ++ tally_line (codes "limit") survey.limit
    ++ spread_line (codes "turns") survey.turns
    ++ spread_line (codes "messages") survey.messages

-- what is printed of it in this form
abbrev pub survey_in : Form → Survey → List ℕ
survey_in Words survey = survey_text survey
survey_in Json survey = survey_line survey

-- no seed's run was stuck, or had a choice left at the limit
abbrev pub AllFinished : Survey → Type 0
AllFinished survey = (survey.stuck ≡ None) × (survey.limit ≡ None)

-- the input is the text of a script, and the output sums up its random runs, with or without faults, under
-- the seeds that are asked for
pub record IsSurveyed (asked : SurveyTask) (input output : List ℕ) (finished : Bool) : Type 0 where
  pub script : ScriptState
  pub script_is : script_of input ≡ Ok script
  pub survey : Survey
  pub survey_is : IsSurvey script asked.faults turn_limit asked.seeds.first asked.seeds.last survey
  pub finished_is : IsTrue finished ↔ AllFinished survey
  pub output_is : output ≡ survey_in asked.form survey

-- ---- What is looked for

-- whether it is a success that no run came to the end that was looked for: only if that end is to be stuck
abbrev pub none_found_is_success : Ending → Bool
none_found_is_success Finished = false
none_found_is_success Stuck = true

-- The output shows, in the format of the search, the run of the input's script by the first of the seeds that brings it
-- to the end that is looked for, and `finished` says whether that run finished. Or no seed does, and the output is the
-- line `none`.
abbrev pub IsFound : SurveyTask → Search → (input output : List ℕ) → (finished : Bool) → Type 0
IsFound asked search input output finished =
    IsFirstRun search.format asked.faults search.ending asked.seeds.first asked.seeds.last input output finished
    ⊎ (NoneEndsSo asked.faults search.ending asked.seeds.first asked.seeds.last input × (output ≡ codes "none\n")
    × (finished ≡ none_found_is_success search.ending))

-- the output sums up the seeds: it counts them or, if an end is looked for, it tells of the first run that came
-- to that end
abbrev pub IsTold : SurveyTask → (input output : List ℕ) → (finished : Bool) → Type 0
IsTold asked input output finished =
    MatchOption asked.find (IsSurveyed asked input output finished)
    (λ search. IsFound asked search input output finished)

-- the choices of the run that is looked for are to be printed, and one of them has no word
abbrev pub FoundHasNoWords : SurveyTask → (input : List ℕ) → Type 0
FoundHasNoWords asked input = MatchOption asked.find ⊥
    (λ search. IsFirstUnwritten search.format asked.faults search.ending asked.seeds.first asked.seeds.last input)

-- ---- What is read and written

-- If the input is known, the output is what `IsTold` says of it. The input was read to its end, and exactly the output
-- was written. If the input is not known, such an input still exists.
abbrev pub SurveysBy : SurveyTask → (old new before after : Option (List ℕ)) → Bool → Type 0
SurveysBy asked old new before after finished =
    IfSome old (λ input. (output : List ℕ) × IsTold asked input output finished × Consumes old new input
    × Appends before after output)
    × ((input output : List ℕ) × IsTold asked input output finished × Appends before after output)

-- when each refusal may come: its cause applies. `Cluster` may not come, since no threads are used.
abbrev pub RefusesSurvey : SurveyTask → List ℕ → RunScriptError → Type 0
RefusesSurvey asked input fault.Read = Unit {0}
RefusesSurvey asked input (fault.Script why) = script_of input ≡ Err why
RefusesSurvey asked input (fault.Cluster why) = ⊥
RefusesSurvey asked input fault.Choice = FoundHasNoWords asked input
RefusesSurvey asked input fault.Memory = Unit {0}
