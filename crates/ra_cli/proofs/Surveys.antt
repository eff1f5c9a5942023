-- The outcome of a script under many seeds, in terms of the input.
use Rattle.std.proofs.Common.{◌≡◌, ◌↔◌, ◌≢◌, ℕ, Bool, List, Option, Ok, IsTrue, refl, subst}
use Rattle.std.specs.Prelude.{IfSome}
use Rattle.std.specs.Io.KnownBytes.{Consumes, Appends}
use Rattle.ra_schedule.specs.declared.surveys.seed_outcomes.Survey.{Survey}
use Rattle.ra_schedule.specs.Script.{ScriptState}
use Rattle.ra_schedule.specs.Survey.{IsSurvey}
use Rattle.ra_schedule.specs.declared.error.ChoicesError.{ChoicesError}
use Rattle.ra_schedule.specs.declared.error.ChoicesError.TheVariants as choices
use Rattle.ra_script.specs.Performed.{turn_limit}
use Rattle.ra_script.specs.ScriptText.{script_of}
use Rattle.ra_cluster.specs.declared.cluster_run.ClusterError.{ClusterError}
use Rattle.ra_cli.specs.declared.error.RunScriptError.{RunScriptError}
use Rattle.ra_cli.specs.declared.error.RunScriptError.TheVariants as fault
use Rattle.ra_arguments.specs.declared.command_line.search.SurveyTask.{SurveyTask}
use Rattle.ra_cli.specs.ClusterRun.{RefusesRun, of_choices}
use Rattle.ra_cli.specs.Surveyed.{AllFinished, FoundHasNoWords, IsSurveyed, IsTold, RefusesSurvey, SurveysBy, survey_in}
use Rattle.ra_cli.proofs.ClusterRuns.{of_known}

-- the lines of a survey of the script of a text
pub surveyed : (asked : SurveyTask) (text : List ℕ) (script : ScriptState) (survey : Survey) (finished : Bool)
    → script_of text ≡ Ok script → IsSurvey script asked.faults turn_limit asked.seeds.first asked.seeds.last survey → IsTrue finished ↔ AllFinished survey
    → IsSurveyed asked text (survey_in asked.form survey) finished
surveyed asked text script survey finished is surveys all = record {
  script = script;
  script_is = is;
  survey = survey;
  survey_is = surveys;
  finished_is = all;
  output_is = refl;
}

-- what is said about the input was written
pub surveys_by : (asked : SurveyTask) (old new before after : Option (List ℕ)) (told : List ℕ) (finished wanted : Bool) → finished ≡ wanted
    → IfSome old (λ input. IsTold asked input told finished × Consumes old new input) → (text : List ℕ) × IsTold asked text told finished
    → Appends before after told → SurveysBy asked old new before after wanted
surveys_by asked old new before after told finished wanted is known some appends =
    subst (SurveysBy asked old new before after) is (
      of_known old (λ input. IsTold asked input told finished × Consumes old new input)
          (λ input. (output : List ℕ) × IsTold asked input output finished × Consumes old new input × Appends before after output)
          (λ input h. (told, h.0, h.1, appends)) known,
      (some.0, told, some.1, appends),
    )

-- what keeps a script from being read keeps it from being surveyed
pub unread : (asked : SurveyTask) (input : List ℕ) (why : RunScriptError)
    → ((cause : ClusterError) → why ≢ fault.Cluster cause) → RefusesRun input why → RefusesSurvey asked input why
unread asked input fault.Read cluster h = tt
unread asked input (fault.Script why) cluster h = h.1
unread asked input (fault.Cluster why) cluster h = absurd (cluster why refl)
unread asked input fault.Choice cluster h = absurd h
unread asked input fault.Memory cluster h = tt

-- why nothing is said about the seeds
pub untold : (asked : SurveyTask) (input : List ℕ) (why : ChoicesError)
    → (why ≡ choices.Choice → FoundHasNoWords asked input) → RefusesSurvey asked input (of_choices why)
untold asked input choices.Choice wordless = wordless refl
untold asked input choices.Memory wordless = tt
