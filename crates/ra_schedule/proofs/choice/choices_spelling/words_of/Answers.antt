use Rattle.std.proofs.Common.{◌≡◌, ◌++◌, ◌∷◌, [], get_or, take, string_bytes, arith, sym, ap, ◌∙◌}
use Rattle.std.proofs.lemmas.List.{take_all, take_more}
use Rattle.std.proofs.lemmas.Result.{IfOk-from_err}
use Rattle.ra_schedule.specs.declared.choice.Choice.TheVariants.{Client}
use Rattle.ra_schedule.specs.ChoicesText.{spelled_all}
use Rattle.ra_schedule.proofs.Words.{taken_len, spelled_first, spelled_next}
use Rattle.ra_schedule.proofs.choice.choices_spelling.words_of.Goals as goal
use Rattle.ra_schedule.proofs.choice.choices_spelling.words_of.Goals.{then-place-gt0+in_ok-push_str, else-place-gt0}

pub loop-place-init : goal.loop-place-init
loop-place-init c = c.new-text.ensures.bytes

pub bounds-choice-items-place : goal.bounds-choice-items-place
bounds-choice-items-place c = c.loop-place-test.true

pub returns-in_err-push_str : goal.returns-in_err-push_str
returns-in_err-push_str c = IfOk-from_err c.from_residual.result _ c.from_residual.ensures.0

pub returns-in_err-push_word : goal.returns-in_err-push_word
returns-in_err-push_word c = IfOk-from_err c.from_residual-in_err-push_word.result _ c.from_residual-in_err-push_word.ensures.0

pub loop-place-preserved : goal.loop-place-preserved
loop-place-preserved c =
    let choices = c.as_slice-choice-items.result.now in
    let place = c.loop-place.place in
    let before = take place choices in
    let counted = taken_len choices place c.loop-place-test.true in
    let old = string_bytes c.loop-place.text in
    let new = string_bytes c.push_word.new.text in
    let word = c.in_ok-push_word.ensures in
    let more : new ≡ spelled_all (before ++ get_or choices place (Client 0) ∷ []) =
    elim c.if-place-gt0.branch [
      | then-place-gt0+in_ok-push_str w ↦
          spelled_next before _ old (string_bytes c.if-place-gt0.text) new (omega (arith, counted, w.if-place-gt0.true)) c.loop-place.invariant
          (ap string_bytes w.text-is ∙ w.in_ok-push_str.ensures.bytes) word
      | else-place-gt0 w ↦
          spelled_first before _ old new (omega (arith, counted, w.if-place-gt0.false)) c.loop-place.invariant (rw w.text-is at word)
    ] in
    more ∙ ap spelled_all (sym (take_more choices place _ c.loop-place-test.true))

pub returns : goal.returns
returns c =
    c.loop-place.invariant
    ∙ ap spelled_all (take_all c.loop-place.place c.as_slice-choice-items.result.now c.loop-place-test.false ∙ c.as_slice-choice-items.ensures)
