use Rattle.std.proofs.Common.{◌≡◌, ◌⊎◌, ℕ, List, Ok, All, sym, subst, inl, inr}
use Rattle.std.proofs.lemmas.Result.{err_from_is_err_and}
use Rattle.ra_schedule.specs.declared.choice.Policy.{Policy}
use Rattle.ra_schedule.specs.declared.error.ChoicesError.{ChoicesError}
use Rattle.ra_schedule.specs.declared.error.ChoicesError.TheVariants as choices
use Rattle.ra_script.specs.declared.output_kind.OutputKind.TheVariants.{Choices}
use Rattle.ra_schedule.specs.ChoicesText.{HasText}
use Rattle.ra_script.specs.Faults.{of_choices}
use Rattle.ra_script.specs.Performed.{HasNoWords, RefusesAs}
use Rattle.ra_script.specs.ScriptText.{script_of}
use Rattle.ra_script.proofs.ReadScripts.{read_scripts}
use Rattle.ra_script.proofs.Printing.{written, undriven, wordless}
use Rattle.ra_script.proofs.performing.choices_of.Goals as goal

-- why choices are not written
of_fault : (policy : Policy) (input : List ℕ) (fault : ChoicesError) (P : Type 0) → (P → HasNoWords policy input)
    → ((fault ≡ choices.Choice) × P) ⊎ (fault ≡ choices.Memory) → RefusesAs Choices policy input (of_choices fault)
of_fault policy input fault P none (inl (is, holds)) = subst (λ (why : ChoicesError). RefusesAs Choices policy input (of_choices why)) (sym is) (none holds)
of_fault policy input fault P none (inr is) = subst (λ (why : ChoicesError). RefusesAs Choices policy input (of_choices why)) (sym is) tt

pub returns : goal.returns
returns c =
    let recording = c.in_ok-recording.ensures.ok in
    written Choices c.args.policy.now c.args.script.now _ (λ input script_is. record {
      script = c.args.script.now;
      script_is = script_is;
      moves = recording.moves;
      report = c.in_ok-recording.recording.report;
      run = recording.run;
      says = record {
        choices = c.in_ok-recording.recording.choices;
        by = recording.choices;
        are = recording.again;
        text = c.in_ok-text.ensures.ok.0;
        lists = c.in_ok-text.ensures.ok.1;
        line = c.in_ok-text.ensures.ok.2;
      };
    })

pub returns-in_err-text : goal.returns-in_err-text
returns-in_err-text c =
    let p = err_from_is_err_and c.from_residual-in_err-text.result c.from_residual-in_err-text.ensures.1 in
    let recording = c.in_ok-recording.ensures.ok in
    let items = c.in_ok-recording.recording.choices.items in
    let none_have : (input : List ℕ) → script_of input ≡ Ok c.args.script.now → (All HasText items → ⊥) → HasNoWords c.args.policy.now input = λ input script_is none. record {
      script = c.args.script.now;
      script_is = script_is;
      moves = recording.moves;
      follows = recording.run.follows;
      ends = recording.run.ends;
      repeats = λ unrepeated. none (c.choices_have_words_unless_messages_are_repeated.ensures.have_text c.args.script.now c.args.policy.now items recording.moves
          (read_scripts input c.args.script.now script_is) recording.run.follows recording.choices unrepeated);
    } in
    rw (p.1, p.2) (wordless Choices c.args.policy.now c.args.script.now c.in_err-text.field-0.0
    (λ input is. of_fault c.args.policy.now input c.in_err-text.field-0.0 (All HasText items → ⊥) (none_have input is) c.in_err-text.ensures.err))

pub returns-in_err-recording : goal.returns-in_err-recording
returns-in_err-recording c =
    let p = err_from_is_err_and c.from_residual.result c.from_residual.ensures.1 in
    rw (p.1, p.2) (undriven Choices c.args.policy.now c.args.script.now c.in_err-recording.field-0.0 c.in_err-recording.ensures.answers)
