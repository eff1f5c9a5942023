use Rattle.std.proofs.Common.{◌≡◌, ◌⊎◌, ℕ, List, [], ◌++◌, All, Option, Some, None, Ok, codes, sym, subst, inl, inr}
use Rattle.std.specs.Prelude.{MatchOption}
use Rattle.std.proofs.lemmas.Result.{err_from_is_err_and}
use Rattle.ra_stamp.specs.Sequence.{Listed as Listing}
use Rattle.ra_world.specs.Traffic.{Move, repeated_by}
use Rattle.ra_schedule.specs.declared.choice.Choice.{Choice}
use Rattle.ra_schedule.specs.declared.choice.Policy.{Policy}
use Rattle.ra_schedule.specs.declared.choice.Policy.TheVariants.{Listed}
use Rattle.ra_schedule.specs.Listing.{AreChoicesBy}
use Rattle.ra_schedule.specs.Schedule.{Follows, Ends}
use Rattle.ra_schedule.specs.Script.{ScriptState}
use Rattle.ra_schedule.specs.Shrinking.{IsStuckRun, IsLeastOf}
use Rattle.ra_schedule.specs.declared.error.ChoicesError.{ChoicesError}
use Rattle.ra_schedule.specs.declared.error.ChoicesError.TheVariants as choices
use Rattle.ra_script.specs.declared.output_kind.OutputKind.TheVariants.{Shrunk}
use Rattle.ra_schedule.specs.ChoicesText.{HasText, Lists}
use Rattle.ra_script.specs.Faults.{of_choices}
use Rattle.ra_script.specs.Performed.{ShrinksToRepeat, RefusesAs, SaysShrunk}
use Rattle.ra_script.specs.ScriptText.{script_of}
use Rattle.ra_script.proofs.ReadScripts.{read_scripts}
use Rattle.ra_script.proofs.Printing.{written, undriven, wordless}
use Rattle.ra_script.proofs.performing.shrunk_of.Goals as goal

says : (script : ScriptState) (moves : List Move) (found : Option (Listing Choice)) (output : List ℕ)
    → MatchOption found (IsStuckRun script moves → ⊥) (λ list. IsStuckRun script moves × IsLeastOf script moves list)
    → MatchOption found (output ≡ codes "none\n") (λ list. (text : List ℕ) × Lists text list.items × (output ≡ text ++ codes "\n"))
    → SaysShrunk script moves output
says script moves None output none is = inr (none, is)
says script moves (Some list) output (stuck, least) (text, lists, line) = inl (list, text, stuck, least, lists, line)

module _ (policy : Policy) (input : List ℕ) (script : ScriptState) (is : script_of input ≡ Ok script)
    (law : (policy : Policy) (choices : List Choice) (moves : List Move) → Follows script policy moves → AreChoicesBy script policy choices moves
    → repeated_by moves ≡ [] → All HasText choices)
    (moves : List Move) (follows : Follows script policy moves) (ends : Ends script policy moves) where
  -- choices without a word repeat a message
  repeats : (found : Option (Listing Choice))
      → MatchOption found (IsStuckRun script moves → ⊥) (λ list. IsStuckRun script moves × IsLeastOf script moves list)
      → MatchOption found ⊥ (λ list. All HasText list.items → ⊥) → ShrinksToRepeat policy input
  repeats None none never = absurd never
  repeats (Some list) (stuck, least) none = record {
    script = script;
    script_is = is;
    moves = moves;
    follows = follows;
    ends = ends;
    stuck = stuck;
    choices = list;
    least = least;
    repeats = λ unrepeated. none (law (Listed list) list.items least.moves least.makes.0 least.by unrepeated);
  }

  -- why choices are not written
  of_fault : (found : Option (Listing Choice)) (fault : ChoicesError)
      → MatchOption found (IsStuckRun script moves → ⊥) (λ list. IsStuckRun script moves × IsLeastOf script moves list)
      → ((fault ≡ choices.Choice) × MatchOption found ⊥ (λ list. All HasText list.items → ⊥)) ⊎ (fault ≡ choices.Memory)
      → RefusesAs Shrunk policy input (of_choices fault)
  of_fault found fault told (inl (choice, none)) = subst (λ (why : ChoicesError). RefusesAs Shrunk policy input (of_choices why)) (sym choice) (repeats found told none)
  of_fault found fault told (inr memory) = subst (λ (why : ChoicesError). RefusesAs Shrunk policy input (of_choices why)) (sym memory) tt

pub returns : goal.returns
returns c =
    let told = c.in_ok-shrunk.ensures.ok in
    written Shrunk c.args.policy.now c.args.script.now _ (λ input script_is. record {
      script = c.args.script.now;
      script_is = script_is;
      moves = told.moves;
      report = told.report;
      run = told.run;
      says = says c.args.script.now told.moves c.in_ok-shrunk.shrunk.choices _ told.choices c.in_ok-text.ensures.ok;
    })

pub returns-in_err-text : goal.returns-in_err-text
returns-in_err-text c =
    let p = err_from_is_err_and c.from_residual-in_err-text.result c.from_residual-in_err-text.ensures.1 in
    let told = c.in_ok-shrunk.ensures.ok in
    rw (p.1, p.2) (wordless Shrunk c.args.policy.now c.args.script.now c.in_err-text.field-0.0
    (λ input is. of_fault c.args.policy.now input c.args.script.now is
    (λ policy list moves. c.choices_have_words_unless_messages_are_repeated.ensures.have_text c.args.script.now policy list moves
    (read_scripts input c.args.script.now is))
    told.moves told.run.follows told.run.ends c.in_ok-shrunk.shrunk.choices c.in_err-text.field-0.0 told.choices c.in_err-text.ensures.err))

pub returns-in_err-shrunk : goal.returns-in_err-shrunk
returns-in_err-shrunk c =
    let p = err_from_is_err_and c.from_residual.result c.from_residual.ensures.1 in
    rw (p.1, p.2) (undriven Shrunk c.args.policy.now c.args.script.now c.in_err-shrunk.field-0.0 c.in_err-shrunk.ensures.answers)
