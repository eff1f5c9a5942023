-- An orderly script is finished by `ra sim`.
use Rattle.std.proofs.Common.{◌≡◌, ◌≢◌, ℕ, ◌≤◌, Bool, true, false, Option, Some, None, Result, Ok, inl, inr, List, [], refl, sym, ap, ◌∙◌, subst, arith}
use Rattle.std.proofs.lemmas.Bool.{false≢true}
use Rattle.std.specs.Prelude.{IsTrue, MatchOption, codes}
use Rattle.std.specs.Io.KnownBytes.{Appends}
use Rattle.ra_schedule.specs.declared.choice.Policy.{Policy}
use Rattle.ra_schedule.specs.declared.error.DriveError.{DriveError}
use Rattle.ra_schedule.specs.declared.surveys.first_seed.Ending.{Ending}
use Rattle.ra_schedule.specs.declared.surveys.first_seed.Ending.TheVariants as endings
use Rattle.ra_schedule.specs.declared.surveys.seed_outcomes.SeedOutcome.{SeedOutcome}
use Rattle.ra_schedule.specs.declared.surveys.seed_outcomes.Survey.{Survey}
use Rattle.ra_schedule.specs.Faults.{FaultRates}
use Rattle.ra_schedule.specs.LockOrder.{IsOutOfOrder, IsUnreleased}
use Rattle.ra_schedule.specs.Performing.{ChoosesItself, LosesNothing, most_turns}
use Rattle.ra_schedule.specs.Schedule.{RepeatsNothing}
use Rattle.ra_schedule.specs.Script.{ScriptState, IsScript}
use Rattle.ra_schedule.specs.Survey.{chance, is_finished, IsOutcome, IsSurvey, NoneIsLost, NoneIsRepeated, SeedsFinish}
use Rattle.ra_script.specs.declared.error.PerformError.{PerformError}
use Rattle.ra_schedule.specs.declared.error.ChoicesError.{ChoicesError}
use Rattle.ra_schedule.specs.declared.error.ChoicesError.TheVariants.{Choice, Memory}
use Rattle.ra_script.specs.declared.error.PerformError.TheVariants.{Drive}
use Rattle.ra_script.specs.declared.error.PerformError.TheVariants as perform
use Rattle.ra_script.specs.declared.output_kind.OutputKind.{OutputKind}
use Rattle.ra_schedule.specs.ChoicesText.{choices_of}
use Rattle.ra_script.specs.declared.error.ScriptError.{ScriptError}
use Rattle.ra_script.specs.Finding.{IsFirstUnwritten, NoneEndsSo}
use Rattle.ra_script.specs.Performed.{RefusesAs, IsPerformedAs, IsOrderly, Unwritten}
use Rattle.ra_script.specs.ScriptText.{script_of}
use Rattle.ra_arguments.specs.declared.command_line.PolicyName.{PolicyName}
use Rattle.ra_arguments.specs.declared.command_line.PolicyName.TheVariants.{Oldest, Newest, Seeded, Faulty, Listed}
use Rattle.ra_arguments.specs.declared.command_line.Task.{Task}
use Rattle.ra_arguments.specs.declared.command_line.Task.TheVariants as task
use Rattle.ra_arguments.specs.declared.command_line.search.Search.{Search}
use Rattle.ra_arguments.specs.declared.command_line.search.SurveyTask.{SurveyTask}
use Rattle.ra_cli.specs.declared.refusal_lines.CommandRefusal.{CommandRefusal}
use Rattle.ra_cli.specs.declared.refusal_lines.CommandRefusal.TheVariants as refusal
use Rattle.ra_arguments.specs.Finishing.{HasNoChoices, IsFaithful, RunsFaithfully}
use Rattle.ra_arguments.specs.Named.{IsNamed}
use Rattle.ra_cli.specs.Refusals.{IsOfReader, IsOfWriter, choices_word, perform_word, refused_line, run_word, word_of}
use Rattle.ra_cli.specs.Surveyed.{IsFound, IsSurveyed, RefusesSurvey, none_found_is_success}
use Rattle.ra_cli.specs.Tasks.{Does, IsCauseFor, IsLeftBy}
use Rattle.ra_cli.specs.declared.error.RunScriptError.{RunScriptError}
use Rattle.ra_cli.specs.declared.error.RunScriptError.TheVariants as run

-- the laws of the crates below, as far as this rests on them
pub record FinishingLaws : Type 0 where
  pub scripts : (input : List ℕ) (script : ScriptState) → script_of input ≡ Ok script → IsScript script
  pub never_refused : (format : OutputKind) (policy : Policy) (input : List ℕ) (cause : DriveError)
      → RepeatsNothing policy → ChoosesItself policy → RefusesAs format policy input (Drive cause) → ⊥
  pub worded : (format : OutputKind) (policy : Policy) (input : List ℕ) → RepeatsNothing policy → Unwritten format policy input → ⊥
  pub most : (script : ScriptState) → IsScript script → most_turns script ≤ 8323072
  pub outcomes : (script : ScriptState) (faults : Option FaultRates) (limit seed : ℕ) (outcome : SeedOutcome)
      → IsScript script → (IsOutOfOrder script → ⊥) → (IsUnreleased script → ⊥)
      → LosesNothing (chance faults seed) → RepeatsNothing (chance faults seed) → most_turns script ≤ limit
      → IsOutcome script (chance faults seed) limit outcome → is_finished outcome ≡ true
  pub surveys : (script : ScriptState) (faults : Option FaultRates) (limit first last : ℕ) (survey : Survey)
      → IsScript script → IsSurvey script faults limit first last survey → SeedsFinish script faults limit first last survey

-- ---- What a policy is, by its name

record IsWilling (policy : Policy) : Type 0 where
  pub itself : ChoosesItself policy
  pub unlost : LosesNothing policy
  pub unrepeated : RepeatsNothing policy

willing : (name : PolicyName) (choices : List ℕ) (policy : Policy) → IsFaithful name → IsNamed name choices policy → IsWilling policy
willing Oldest choices policy faithful is = subst IsWilling (sym is) (record { itself = tt; unlost = tt; unrepeated = tt })
willing Newest choices policy faithful is = subst IsWilling (sym is) (record { itself = tt; unlost = tt; unrepeated = tt })
willing (Seeded seed) choices policy faithful is = subst IsWilling (sym is) (record { itself = tt; unlost = tt; unrepeated = tt })
willing (Faulty seed faults) choices policy faithful is = subst IsWilling (sym is) (record { itself = tt; unlost = faithful.0; unrepeated = faithful.1 })
willing Listed choices policy faithful is = absurd faithful

by_chance : (faults : Option FaultRates) (seed : ℕ) → NoneIsLost faults → NoneIsRepeated faults → IsWilling (chance faults seed)
by_chance None seed lost repeated = record { itself = tt; unlost = tt; unrepeated = tt }
by_chance (Some rates) seed lost repeated = record { itself = tt; unlost = lost; unrepeated = repeated }

-- ---- One run

ok_same : {x y : ScriptState} → ◌≡◌ {A = Result ScriptState ScriptError} (Ok x) (Ok y) → x ≡ y
ok_same e = cc

ends_finished : (format : OutputKind) (policy : Policy) (input output : List ℕ) (finished : Bool) → IsPerformedAs format policy input output finished
    → LosesNothing policy → ChoosesItself policy → IsOrderly input → IsTrue finished
ends_finished format policy input output finished performed unlost itself orderly =
    let same : orderly.script ≡ performed.script = ok_same (sym orderly.script_is ∙ performed.script_is) in
    performed.run.waiting_ends itself unlost (subst (λ (s : ScriptState). IsOutOfOrder s → ⊥) same orderly.in_order)
    (subst (λ (s : ScriptState). IsUnreleased s → ⊥) same orderly.released)

-- ---- Many seeds

module _ (laws : FinishingLaws) (asked : SurveyTask) (input : List ℕ) (orderly : IsOrderly input)
    (lost : NoneIsLost asked.faults) (repeated : NoneIsRepeated asked.faults) (some : asked.seeds.first ≤ asked.seeds.last) where
  few : (script : ScriptState) → script_of input ≡ Ok script → most_turns script ≤ 16777216
  few script is = omega (arith, laws.most script (laws.scripts input script is))

  in_order : (script : ScriptState) → script_of input ≡ Ok script → IsOutOfOrder script → ⊥
  in_order script is = subst (λ (s : ScriptState). IsOutOfOrder s → ⊥) (ok_same (sym orderly.script_is ∙ is)) orderly.in_order

  released : (script : ScriptState) → script_of input ≡ Ok script → IsUnreleased script → ⊥
  released script is = subst (λ (s : ScriptState). IsUnreleased s → ⊥) (ok_same (sym orderly.script_is ∙ is)) orderly.released

  none_ends : (ending : Ending) (finished : Bool) → NoneEndsSo asked.faults ending asked.seeds.first asked.seeds.last input → finished ≡ none_found_is_success ending → finished ≡ true
  none_ends endings.Finished finished none is =
      let (outcome, came, missed) = none.none asked.seeds.first (omega arith) (omega (arith, some)) in
      let chosen = by_chance asked.faults asked.seeds.first lost repeated in
      let came_to = laws.outcomes none.script asked.faults 16777216 asked.seeds.first outcome (laws.scripts input none.script none.script_is) (in_order none.script none.script_is) (released none.script none.script_is)
      chosen.unlost chosen.unrepeated (few none.script none.script_is) came in
      absurd (false≢true (sym missed ∙ came_to))
  none_ends endings.Stuck finished none is = is

  told : (find : Option Search) (output : List ℕ) (finished : Bool)
      → MatchOption find (IsSurveyed asked input output finished) (λ search. IsFound asked search input output finished) → finished ≡ true
  told None output finished is =
      let ends = laws.surveys is.script asked.faults 16777216 asked.seeds.first asked.seeds.last is.survey (laws.scripts input is.script is.script_is) is.survey_is in
      is.finished_is.1 (
        ends.none_stuck (in_order is.script is.script_is) (released is.script is.script_is) lost,
        ends.none_at_limit repeated (few is.script is.script_is),
      )
  told (Some search) output finished (inl found) =
      let chosen = by_chance asked.faults found.seed lost repeated in
      ends_finished search.format (chance asked.faults found.seed) input output finished found.performed chosen.unlost chosen.itself orderly
  told (Some search) output finished (inr (none, line, is)) = none_ends search.ending finished none is

-- ---- Every task

never_left : FinishingLaws → (asked : Task) (input : List ℕ) (new before after : Option (List ℕ)) → IsOrderly input → RunsFaithfully asked
    → IsLeftBy asked (Some input) new before after → ⊥
never_left laws (task.Answer node nodes) input new before after orderly faithful left = faithful
never_left laws (task.Sim name choices format) input new before after orderly faithful (listed, policy, named, by) =
    let chosen = willing name choices.now policy faithful named in
    let (output, performed, consumes, appends) = by.0 in
    false≢true (ends_finished format policy input output false performed chosen.unlost chosen.itself orderly)
never_left laws (task.Survey survey) input new before after orderly faithful left =
    let (output, is, consumes, appends) = left.0 in
    false≢true (told laws survey input orderly faithful.0 faithful.1 faithful.2 survey.find output false is)
never_left laws (task.Check complete form) input new before after orderly faithful left = faithful
never_left laws (task.CheckMarks complete form) input new before after orderly faithful left = faithful
never_left laws (task.CheckAll complete) input new before after orderly faithful left = faithful
never_left laws (task.Follow kind every complete form) input new before after orderly faithful left = faithful
never_left laws (task.Draw kind part) input new before after orderly faithful left = faithful
never_left laws (task.Cluster printed) input new before after orderly faithful left = faithful
never_left laws (task.Help text) input new before after orderly faithful left = faithful

pub always_driven : FinishingLaws → (asked : Task) (old new : Option (List ℕ)) (cause : DriveError) → RunsFaithfully asked
    → IsCauseFor asked old new (refusal.Perform (Drive cause)) → ⊥
always_driven laws (task.Answer node nodes) old new cause faithful refuses = faithful
always_driven laws (task.Sim name choices format) old new cause faithful (inl (fault, is, why)) = cc
always_driven laws (task.Sim name choices format) old new cause faithful (inr (fault, is, failed, policy, named, (known, (input, refuses)))) =
    let chosen = willing name choices.now policy faithful named in
    let same : fault ≡ Drive cause = cc in
    laws.never_refused format policy input cause chosen.unrepeated chosen.itself (subst (RefusesAs format policy input) same refuses)
always_driven laws (task.Survey survey) old new cause faithful (fault, is, failed, refuses) = cc
always_driven laws (task.Check complete form) old new cause faithful refuses = faithful
always_driven laws (task.CheckMarks complete form) old new cause faithful refuses = faithful
always_driven laws (task.CheckAll complete) old new cause faithful refuses = faithful
always_driven laws (task.Follow kind every complete form) old new cause faithful refuses = faithful
always_driven laws (task.Draw kind part) old new cause faithful refuses = faithful
always_driven laws (task.Cluster printed) old new cause faithful refuses = faithful
always_driven laws (task.Help text) old new cause faithful refuses = faithful

-- what is looked for has words
none_wordless : FinishingLaws → (asked : SurveyTask) (find : Option Search) (input : List ℕ) → NoneIsLost asked.faults → NoneIsRepeated asked.faults
    → MatchOption find ⊥ (λ search. IsFirstUnwritten search.format asked.faults search.ending asked.seeds.first asked.seeds.last input) → ⊥
none_wordless laws asked None input lost repeated h = h
none_wordless laws asked (Some search) input lost repeated h =
    laws.worded search.format (chance asked.faults h.seed) input (by_chance asked.faults h.seed lost repeated).unrepeated h.unwritten

-- it is refused for want of memory only
refused_for_memory : FinishingLaws → (asked : Task) (input : List ℕ) (new : Option (List ℕ)) (why : CommandRefusal) → IsOrderly input → RunsFaithfully asked → HasNoChoices asked
    → (IsOfReader why → ⊥) → (IsOfWriter why → ⊥) → IsCauseFor asked (Some input) new why → word_of why ≡ codes "Memory"
refused_for_memory laws (task.Answer node nodes) input new why orderly faithful plain reader writer cause = absurd faithful
refused_for_memory laws (task.Sim name choices format) input new why orderly faithful plain reader writer (inl (fault, is, cause)) =
    ap word_of is ∙ of_choices fault cause
  where
    of_choices : (fault : ChoicesError) → (fault ≡ Choice → choices_of choices.now ≡ None) → choices_word fault ≡ codes "Memory"
    of_choices Choice none = let bad : choices_of [] ≡ None = subst (λ (text : List ℕ). choices_of text ≡ None) plain (none refl) in cc
    of_choices Memory none = refl
refused_for_memory laws (task.Sim name choices format) input new why orderly faithful plain reader writer (inr (fault, is, failed, policy, named, (cause, some))) =
    ap word_of is ∙ of_run fault is cause
  where
    of_run : (fault : PerformError) → why ≡ refusal.Perform fault → RefusesAs format policy input fault → perform_word fault ≡ codes "Memory"
    of_run perform.Read is h = absurd (reader (subst IsOfReader (sym is) refl))
    of_run (perform.Script wrong) is h = let read = orderly.script_is in let other = h.1 in absurd cc
    of_run (perform.Drive cause) is h =
        let chosen = willing name choices.now policy faithful named in
        absurd (laws.never_refused format policy input cause chosen.unrepeated chosen.itself h)
    of_run perform.Choice is h = absurd (laws.worded format policy input (willing name choices.now policy faithful named).unrepeated h)
    of_run perform.Memory is h = refl
    of_run perform.Write is h = absurd (writer (subst IsOfWriter (sym is) refl))
refused_for_memory laws (task.Survey survey) input new why orderly faithful plain reader writer (fault, is, failed, cause) =
    ap word_of is ∙ of_survey fault is cause
  where
    of_survey : (fault : RunScriptError) → why ≡ refusal.Survey fault → RefusesSurvey survey input fault → run_word fault ≡ codes "Memory"
    of_survey run.Read is h = absurd (reader (subst IsOfReader (sym is) refl))
    of_survey (run.Script wrong) is h = let read = orderly.script_is in absurd cc
    of_survey (run.Cluster wrong) is h = absurd h
    of_survey run.Choice is h = absurd (none_wordless laws survey survey.find input faithful.0 faithful.1 h)
    of_survey run.Memory is h = refl
refused_for_memory laws (task.Check complete form) input new why orderly faithful plain reader writer cause = absurd faithful
refused_for_memory laws (task.CheckMarks complete form) input new why orderly faithful plain reader writer cause = absurd faithful
refused_for_memory laws (task.CheckAll complete) input new why orderly faithful plain reader writer cause = absurd faithful
refused_for_memory laws (task.Follow kind every complete form) input new why orderly faithful plain reader writer cause = absurd faithful
refused_for_memory laws (task.Draw kind part) input new why orderly faithful plain reader writer cause = absurd faithful
refused_for_memory laws (task.Cluster printed) input new why orderly faithful plain reader writer cause = absurd faithful
refused_for_memory laws (task.Help text) input new why orderly faithful plain reader writer cause = absurd faithful

-- ---- By the status

-- 3 does not come
pub finishes : FinishingLaws → (asked : Task) (input : List ℕ) (new before after : Option (List ℕ)) (status : ℕ) → RunsFaithfully asked → IsOrderly input
    → Does asked (Some input) new before after status → status ≢ 3
finishes laws asked input new before after status faithful orderly did three =
    never_left laws asked input new before after orderly faithful (did.unfinished three)

-- and 2 comes only with the line for want of memory
pub only_memory : FinishingLaws → (asked : Task) (input : List ℕ) (new before after : Option (List ℕ)) (status : ℕ) → RunsFaithfully asked → HasNoChoices asked
    → IsOrderly input → Does asked (Some input) new before after status → status ≡ 2 → Appends before after (refused_line (codes "Memory"))
only_memory laws asked input new before after status faithful plain orderly did two =
    let (why, reader, writer, out, cause) = did.refused two in
    subst (λ (word : List ℕ). Appends before after (refused_line word)) (refused_for_memory laws asked input new why orderly faithful plain reader writer cause) out
