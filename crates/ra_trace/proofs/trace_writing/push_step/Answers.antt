use Rattle.std.proofs.Common.{◌≡◌, ℕ, List, ◌++◌, refl, sym, ap}
use Rattle.std.specs.Prelude.{codes, decimal}
use Rattle.ra_stamp.specs.Mode.{mode_word}
use Rattle.ra_world.specs.declared.step.Step.{Step}
use Rattle.ra_world.specs.declared.step.Step.TheVariants.{Ask, Leave, Cancel, Deliver, Lose, Repeat, Forget}
use Rattle.ra_text.specs.Drafting.{Adds}
use Rattle.ra_text.specs.Lines.{field, message_fields}
use Rattle.ra_text.proofs.Drafts.{adds_as, adds_to, adds_both}
use Rattle.ra_trace.specs.TraceText.{step_line}
use Rattle.ra_trace.proofs.trace_writing.push_step.Goals as goal
use Rattle.ra_trace.proofs.trace_writing.push_step.Goals.{in-Ask, in-Leave, in-Cancel, in-Deliver, in-Lose, in-Repeat, in-Forget}

-- the line without its line feed
abbrev step_words : Step → List ℕ
step_words (Ask node client name mode) = codes "ask" ++ field (decimal node) ++ field (decimal client) ++ field name ++ field (mode_word mode)
step_words (Leave node client name) = codes "release" ++ field (decimal node) ++ field (decimal client) ++ field name
step_words (Cancel node client name) = codes "cancel" ++ field (decimal node) ++ field (decimal client) ++ field name
step_words (Deliver message) = codes "deliver" ++ message_fields message
step_words (Lose message) = codes "lose" ++ message_fields message
step_words (Repeat message) = codes "repeat" ++ message_fields message
step_words (Forget node) = codes "forget" ++ field (decimal node)

whole : (step : Step) → step_words step ++ codes "\n" ≡ step_line step
whole (Ask node client name mode) = refl
whole (Leave node client name) = refl
whole (Cancel node client name) = refl
whole (Deliver message) = refl
whole (Lose message) = refl
whole (Repeat message) = refl
whole (Forget node) = refl

pub returns : goal.returns
returns c =
    let words : Adds c.args.text.now (step_words c.args.step.now) c.match-step.text =
    elim c.match-step.branch [
      | in-Ask w ↦
          adds_to w.text-is (adds_as (adds_both w.push_start.ensures (adds_as w.push_field.ensures (ap field w.word.ensures))) (sym (ap step_words w.in-Ask.is)))
      | in-Leave w ↦ adds_to w.text-is (adds_as w.push_start-in-Leave.ensures (sym (ap step_words w.in-Leave.is)))
      | in-Cancel w ↦ adds_to w.text-is (adds_as w.push_start-in-Cancel.ensures (sym (ap step_words w.in-Cancel.is)))
      | in-Deliver w ↦ adds_to w.text-is (adds_as w.push_sent.ensures (sym (ap step_words w.in-Deliver.is)))
      | in-Lose w ↦ adds_to w.text-is (adds_as w.push_sent-in-Lose.ensures (sym (ap step_words w.in-Lose.is)))
      | in-Repeat w ↦ adds_to w.text-is (adds_as w.push_sent-in-Repeat.ensures (sym (ap step_words w.in-Repeat.is)))
      | in-Forget w ↦ adds_to w.text-is (adds_as (adds_both w.push.ensures (adds_as w.push_number.ensures (ap (λ k. field (decimal k)) w.get.ensures.value))) (sym (ap step_words w.in-Forget.is)))
    ] in
    adds_as (adds_both words c.end_line.ensures) (whole c.args.step.now)
