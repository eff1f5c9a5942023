use Rattle.std.proofs.Common.{◌≡◌, ap, ◌∙◌, sym, arith}
use Rattle.ra_schedule.specs.Survey.{is_finished, is_stuck, is_limit, figures_of, turns_of}
use Rattle.ra_schedule.proofs.Tallying.{counts, few_enough, no_more, number_is, one_number_more, no_number_more}
use Rattle.ra_schedule.proofs.surveys.seed_outcomes.with_outcome.Goals as goal

pub counted-requires : goal.counted-requires
counted-requires c =
    let (first, outcomes, t, is) = c.requires in
    few_enough is_finished first c.args.seed outcomes is (omega arith) c.args.survey.finished t.finished

pub counted-requires-in-Stuck : goal.counted-requires-in-Stuck
counted-requires-in-Stuck c =
    let (first, outcomes, t, is) = c.requires in
    few_enough is_stuck first c.args.seed outcomes is (omega arith) c.args.survey.stuck t.stuck

pub counted-requires-in-Limit : goal.counted-requires-in-Limit
counted-requires-in-Limit c =
    let (first, outcomes, t, is) = c.requires in
    few_enough is_limit first c.args.seed outcomes is (omega arith) c.args.survey.limit t.limit

pub returns-in-Finished : goal.returns-in-Finished
returns-in-Finished c first outcomes t is =
    let outcome = c.args.outcome in
    let figures = c.in-Finished.field-0 in
    let ended = ap figures_of c.in-Finished.is in
    let turns : c.from.result ≡ figures.turns = cc in
    record {
      finished = counts is_finished first c.args.seed outcomes outcome c.args.survey.finished c.counted.result t.finished is (ap is_finished c.in-Finished.is) c.counted.ensures;
      stuck = t.stuck ∙ sym (no_more is_stuck first outcomes outcome (ap is_stuck c.in-Finished.is));
      limit = t.limit ∙ sym (no_more is_limit first outcomes outcome (ap is_limit c.in-Finished.is));
      turns = one_number_more (λ f. f.turns) outcomes outcome figures c.widened.result ended (number_is (turns_of outcomes) _ figures.turns c.widened.result turns (c.widened.ensures _ t.turns));
      messages = one_number_more (λ f. f.messages) outcomes outcome figures c.widened-in-Finished.result ended (c.widened-in-Finished.ensures _ t.messages);
    }

pub returns-in-Stuck : goal.returns-in-Stuck
returns-in-Stuck c first outcomes t is =
    let outcome = c.args.outcome in
    let figures = c.in-Stuck.field-0 in
    let ended = ap figures_of c.in-Stuck.is in
    let turns : c.from-in-Stuck.result ≡ figures.turns = cc in
    record {
      finished = t.finished ∙ sym (no_more is_finished first outcomes outcome (ap is_finished c.in-Stuck.is));
      stuck = counts is_stuck first c.args.seed outcomes outcome c.args.survey.stuck c.counted-in-Stuck.result t.stuck is (ap is_stuck c.in-Stuck.is) c.counted-in-Stuck.ensures;
      limit = t.limit ∙ sym (no_more is_limit first outcomes outcome (ap is_limit c.in-Stuck.is));
      turns = one_number_more (λ f. f.turns) outcomes outcome figures c.widened-in-Stuck.result ended (number_is (turns_of outcomes) _ figures.turns c.widened-in-Stuck.result turns (c.widened-in-Stuck.ensures _ t.turns));
      messages = one_number_more (λ f. f.messages) outcomes outcome figures c.widened-in-Stuck-2.result ended (c.widened-in-Stuck-2.ensures _ t.messages);
    }

pub returns-in-Limit : goal.returns-in-Limit
returns-in-Limit c first outcomes t is =
    let outcome = c.args.outcome in
    let none = ap figures_of c.in-Limit.is in
    record {
      finished = t.finished ∙ sym (no_more is_finished first outcomes outcome (ap is_finished c.in-Limit.is));
      stuck = t.stuck ∙ sym (no_more is_stuck first outcomes outcome (ap is_stuck c.in-Limit.is));
      limit = counts is_limit first c.args.seed outcomes outcome c.args.survey.limit c.counted-in-Limit.result t.limit is (ap is_limit c.in-Limit.is) c.counted-in-Limit.ensures;
      turns = no_number_more (λ f. f.turns) outcomes outcome c.args.survey.turns none t.turns;
      messages = no_number_more (λ f. f.messages) outcomes outcome c.args.survey.messages none t.messages;
    }
