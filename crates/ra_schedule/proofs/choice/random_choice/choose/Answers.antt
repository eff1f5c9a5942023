use Rattle.std.proofs.Common.{ℕ, refl, ap, ◌∙◌}
use Rattle.std.proofs.lemmas.Bool.{true≢false}
use Rattle.rand_pcg.specs.Lcg.{Lcg}
use Rattle.ra_schedule.specs.declared.choice.Choice.TheVariants.{Message}
use Rattle.ra_schedule.specs.Schedule.{with_fault}
use Rattle.ra_schedule.proofs.PolicyGenerator.{named_is_picked, client_is_picked, message_is_picked, nothing_is_picked}
use Rattle.ra_schedule.proofs.ScheduleLaws.{schedules_rest_on_runs}
use Rattle.ra_schedule.proofs.choice.random_choice.choose.Goals as goal

pub returns-in_err-named-clause-none : goal.returns-in_err-named-clause-none
returns-in_err-named-clause-none c e =
    let moves = c.args.world.now.moves in
    nothing_is_picked c.args.script.now c.args.policy.now moves c.args.generator.now (schedules_rest_on_runs.one_list moves) c.requires.drawn
    (c.in_err-named.ensures.none refl)

pub returns-in_default : goal.returns-in_default
returns-in_default c =
    let told = c.in_ok-named.ensures in
    let (picks, drawn) = named_is_picked c.args.script.now c.args.policy.now c.args.world.now.moves c.args.generator.now c.draw.new.generator c.in_ok-named.named
    c.in_default.not-Faulty c.requires.drawn (told.drawn refl) told.some in
    record { some = picks; none = λ e. absurd (true≢false e); drawn = drawn }

pub returns-in_default-named : goal.returns-in_default-named
returns-in_default-named c =
    let told = c.in_ok-named.ensures in
    let (picks, drawn) = client_is_picked c.args.script.now c.args.policy.now c.in-Faulty.seed c.in-Faulty.faults c.args.world.now.moves c.args.generator.now
    c.draw.new.generator c.in_ok-named.named c.in-Faulty.is c.in_default-named.not-Message told.named c.requires.drawn (told.drawn refl) told.some in
    record { some = picks; none = λ e. absurd (true≢false e); drawn = drawn }

pub returns-clause-some : goal.returns-clause-some
returns-clause-some c =
    let told = c.in_ok-named.ensures in
    let is = c.befall.ensures ∙ ap (λ (p : ℕ × Lcg). with_fault c.in-Faulty.faults p.0 (Message c.in-Message.place)) c.next_word.ensures in
    (message_is_picked c.args.script.now c.args.policy.now c.in-Faulty.seed c.in-Faulty.faults c.args.world.now.moves c.args.generator.now
    c.draw.new.generator c.next_word.new.self c.in_ok-named.named c.in-Message.place c.befall.result c.in-Faulty.is c.in-Message.is
    c.requires.drawn (told.drawn refl) (ap (λ (p : ℕ × Lcg). p.1) c.next_word.ensures) told.some is).0

pub returns-clause-drawn : goal.returns-clause-drawn
returns-clause-drawn c =
    let told = c.in_ok-named.ensures in
    let is = c.befall.ensures ∙ ap (λ (p : ℕ × Lcg). with_fault c.in-Faulty.faults p.0 (Message c.in-Message.place)) c.next_word.ensures in
    (message_is_picked c.args.script.now c.args.policy.now c.in-Faulty.seed c.in-Faulty.faults c.args.world.now.moves c.args.generator.now
    c.draw.new.generator c.next_word.new.self c.in_ok-named.named c.in-Message.place c.befall.result c.in-Faulty.is c.in-Message.is
    c.requires.drawn (told.drawn refl) (ap (λ (p : ℕ × Lcg). p.1) c.next_word.ensures) told.some is).1
