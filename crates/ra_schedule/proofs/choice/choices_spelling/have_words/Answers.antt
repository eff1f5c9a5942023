use Rattle.std.proofs.Common.{refl}
use Rattle.std.proofs.lemmas.Bool.{false≢true}
use Rattle.ra_schedule.proofs.Words.{have_none, have_more, have_all}
use Rattle.ra_schedule.proofs.choice.choices_spelling.have_words.Goals as goal

pub loop-place-init : goal.loop-place-init
loop-place-init c = have_none c.args.choices.now

pub bounds-choices-place : goal.bounds-choices-place
bounds-choices-place c = c.loop-place-test.true

pub returns-then-not-has_word : goal.returns-then-not-has_word
returns-then-not-has_word c = (λ have. absurd (false≢true have), λ all. c.if-not-has_word.ensures.1 (all c.loop-place.place _ c.loop-place-test.true))

pub loop-place-preserved : goal.loop-place-preserved
loop-place-preserved c =
    have_more c.args.choices.now c.loop-place.place _ c.loop-place-test.true c.loop-place.invariant (c.if-not-has_word.ensures.0 refl)

pub returns : goal.returns
returns c = (λ _. have_all c.args.choices.now c.loop-place.place c.loop-place-test.false c.loop-place.invariant, λ _. refl)
