use Rattle.std.proofs.Common.{◌≡◌, Option, Some, None, ◌+◌, refl, sym, ap, ◌∙◌, subst}
use Rattle.std.specs.Option.{IfSome}
use Rattle.std.proofs.lemmas.Bool.{true≢false}
use Rattle.ra_schedule.specs.declared.choice.Choice.{Choice}
use Rattle.ra_schedule.specs.declared.choice.random_state.RandomState.{RandomState}
use Rattle.ra_schedule.specs.Schedule.{Picks}
use Rattle.ra_schedule.specs.PolicyState.{IsRandomState, generator_at, generator_in, words_drawn, words_for}
use Rattle.ra_schedule.specs.Driving.{IsMeaning}
use Rattle.ra_schedule.proofs.Choosing.{nothing_left, newest_message, oldest_message, first_client, listed_choice, listed_ends}
use Rattle.ra_schedule.proofs.Meanings.{some_number}
use Rattle.ra_schedule.proofs.PolicyGenerator.{none_goes_on, listed_goes_on}
use Rattle.ra_schedule.proofs.ScheduleLaws.{schedules_rest_on_runs}
use Rattle.ra_schedule.proofs.choice.picking.pick.Goals as goal
use Rattle.ra_schedule.proofs.choice.picking.pick.Goals.{in-Newest, in_default-policy}

pub choose-requires-clause-drawn : goal.choose-requires-clause-drawn
choose-requires-clause-drawn c = sym (ap generator_in c.in-Some.is) ∙ c.requires.drawn

pub returns-in_err-choice-2 : goal.returns-in_err-choice-2
returns-in_err-choice-2 c =
    let script = c.args.script.now in
    let moves = c.args.world.now.moves in
    let random : IsRandomState script moves c.in-Some.random = subst (λ (o : Option RandomState). IfSome o (IsRandomState script moves)) c.in-Some.is c.requires.random in
    let is = c.from_residual-in_err-choice-2.ensures in
    rw is (record {
      some = tt;
      meaning = tt;
      none = λ e. c.in_err-choice-2.ensures.none refl;
      drawn = tt;
      random = record { node_clients = random.node_clients; flags = random.flags; counted = random.counted };
    })

pub returns-in-Some : goal.returns-in-Some
returns-in-Some c =
    let script = c.args.script.now in
    let policy = c.args.policy.now in
    let moves = c.args.world.now.moves in
    let picked = c.with_meaning-in-Some in
    let random : IsRandomState script moves c.in-Some.random = subst (λ (o : Option RandomState). IfSome o (IsRandomState script moves)) c.in-Some.is c.requires.random in
    record {
      some = subst (Picks script policy moves) (sym picked.ensures.choice) c.in_ok-choice-2.ensures.some;
      meaning = subst (λ (x : Choice). IsMeaning script moves x picked.result.meaning) (sym picked.ensures.choice) picked.ensures.meaning;
      none = λ e. absurd (true≢false e);
      drawn = subst (λ (x : Choice). Some c.choose.new.generator ≡ generator_at policy (words_drawn policy moves + words_for policy x))
          (sym picked.ensures.choice) c.in_ok-choice-2.ensures.drawn;
      random = record { node_clients = random.node_clients; flags = random.flags; counted = random.counted };
    }

pub returns-then-messages-eq0 : goal.returns-then-messages-eq0
returns-then-messages-eq0 c =
    let none = c.in_default-first_enabled.ensures.none refl in
    let (left, leaves, is) = c.under_way-messages.ensures.value in
    let has : None ≡ _ = sym (ap generator_in c.in_default-random.is) ∙ c.requires.drawn in
    record {
      some = tt;
      meaning = tt;
      none = λ e. nothing_left schedules_rest_on_runs.one_list c.args.script.now c.args.policy.now c.args.world.now.moves _
          c.in_default.not-Listed has (none, (left, leaves, sym is ∙ c.if-messages-eq0.true));
      drawn = tt;
      random = c.requires.random;
    }

pub returns : goal.returns
returns c =
    let script = c.args.script.now in
    let policy = c.args.policy.now in
    let moves = c.args.world.now.moves in
    let none = c.in_default-first_enabled.ensures.none refl in
    let (left, leaves, is) = c.under_way-messages.ensures.value in
    let has : None ≡ _ = sym (ap generator_in c.in_default-random.is) ∙ c.requires.drawn in
    let picked = c.with_meaning-2 in
    let choice : Picks script policy moves c.match-policy-2.choice =
    elim c.match-policy-2.branch [
      | in-Newest w ↦
          subst (Picks script policy moves) (sym w.choice-is)
          (newest_message script policy moves c.under_way-messages.result w.in-Newest.is (λ zero. c.if-messages-eq0.false zero) (none, (left, leaves, sym is)))
      | in_default-policy w ↦
          subst (Picks script policy moves) (sym w.choice-is)
          (oldest_message script policy moves _ c.under_way-messages.result c.in_default.not-Listed has w.in_default-policy.not-Newest
          (λ zero. c.if-messages-eq0.false zero) (none, (left, leaves, sym is)))
    ] in
    record {
      some = subst (Picks script policy moves) (sym picked.ensures.choice) choice;
      meaning = subst (λ (x : Choice). IsMeaning script moves x picked.result.meaning) (sym picked.ensures.choice) picked.ensures.meaning;
      none = λ e. absurd (true≢false e);
      drawn = ap generator_in c.in_default-random.is ∙ none_goes_on policy _ _ has;
      random = c.requires.random;
    }

pub returns-in_err-choice : goal.returns-in_err-choice
returns-in_err-choice c =
    let is = c.from_residual.ensures in
    rw is (record {
      some = tt;
      meaning = tt;
      none = λ e. listed_ends c.args.script.now c.args.policy.now c.in-Listed.choices c.args.world.now.moves c.steps.result c.in-Listed.is c.steps.ensures.value c.in_err-choice.ensures;
      drawn = tt;
      random = c.requires.random;
    })

pub with_meaning-requires : goal.with_meaning-requires
with_meaning-requires c = c.requires.tracked

pub returns-in-Listed : goal.returns-in-Listed
returns-in-Listed c =
    let script = c.args.script.now in
    let policy = c.args.policy.now in
    let moves = c.args.world.now.moves in
    let picked = c.with_meaning in
    record {
      some = subst (Picks script policy moves) (sym picked.ensures.choice)
          (listed_choice script policy c.in-Listed.choices moves c.steps.result c.in_ok-choice.choice c.in-Listed.is c.steps.ensures.value c.in_ok-choice.ensures);
      meaning = subst (λ (x : Choice). IsMeaning script moves x picked.result.meaning) (sym picked.ensures.choice) picked.ensures.meaning;
      none = λ e. absurd (true≢false e);
      drawn = c.requires.drawn ∙ listed_goes_on policy c.in-Listed.choices _ _ c.in-Listed.is;
      random = c.requires.random;
    }

pub choose-requires-clause-flags : goal.choose-requires-clause-flags
choose-requires-clause-flags c =
    (subst (λ (o : Option RandomState). IfSome o (IsRandomState c.args.script.now c.args.world.now.moves)) c.in-Some.is c.requires.random).flags

pub choose-requires-clause-counted : goal.choose-requires-clause-counted
choose-requires-clause-counted c =
    (subst (λ (o : Option RandomState). IfSome o (IsRandomState c.args.script.now c.args.world.now.moves)) c.in-Some.is c.requires.random).counted

pub with_meaning-requires-in-Some : goal.with_meaning-requires-in-Some
with_meaning-requires-in-Some c = c.requires.tracked

pub first_enabled-requires : goal.first_enabled-requires
first_enabled-requires c = record { tracked = c.requires.tracked; stuck = c.requires.stuck }

pub returns-in-Some-first_enabled : goal.returns-in-Some-first_enabled
returns-in-Some-first_enabled c =
    let policy = c.args.policy.now in
    let has : None ≡ _ = sym (ap generator_in c.in_default-random.is) ∙ c.requires.drawn in
    record {
      some = first_client c.args.script.now policy c.args.world.now.moves _ c.in-Some-first_enabled.found.client c.in_default.not-Listed has c.in-Some-first_enabled.ensures.first;
      meaning = record { ok = c.in-Some-first_enabled.ensures.step; err = tt };
      none = λ e. absurd (true≢false e);
      drawn = ap generator_in c.in_default-random.is ∙ none_goes_on policy _ _ has;
      random = c.requires.random;
    }

pub overflow_sub-choice : goal.overflow_sub-choice
overflow_sub-choice c = some_number c.under_way-messages.result c.if-messages-eq0.false

pub with_meaning-requires-2 : goal.with_meaning-requires-2
with_meaning-requires-2 c = c.requires.tracked
