use Rattle.std.proofs.Common.{◌≡◌, arith, sym, subst, ◌∙◌, below_more}
use Rattle.std.proofs.lemmas.Bool.{false≢true}
use Rattle.ra_stamp.specs.declared.message.Message.{Message as Sent}
use Rattle.ra_stamp.proofs.StampLaws.{same_messages}
use Rattle.ra_schedule.specs.Shrinking.{IsAlikeAt, unnumbered}
use Rattle.ra_schedule.proofs.Choosing.{place_is_one}
use Rattle.ra_schedule.proofs.Meanings.{absent}
use Rattle.ra_schedule.proofs.Replayed.{none_alike}
use Rattle.ra_schedule.proofs.ScheduleLaws.{schedules_rest_on_runs}
use Rattle.ra_schedule.proofs.driver.replaying.place_like.Goals as goal

pub loop-place-init : goal.loop-place-init
loop-place-init c k less at = absurd (omega (arith, less))

pub returns-then-eq-clause-some : goal.returns-then-eq-clause-some
returns-then-eq-clause-some c =
    let (left, leaves, is) = c.in-Some.ensures.value in
    let same = same_messages c.unnumbered.result c.unnumbered-sought.result in (
      (c.in-Some.found, (left, leaves, sym is), sym c.unnumbered.ensures ∙ same.0 (sym c.eq.ensures ∙ c.if-eq.true) ∙ c.unnumbered-sought.ensures),
      c.loop-place.invariant,
    )

pub loop-place-preserved-in_default : goal.loop-place-preserved-in_default
loop-place-preserved-in_default c =
    let moves = c.args.world.now.moves in
    below_more (λ k. IsAlikeAt moves c.args.message.now k → ⊥) c.loop-place.place c.loop-place.invariant
    (λ at. let (other, there, alike) = at in absent schedules_rest_on_runs.one_list moves c.loop-place.place c.in_default.ensures.value other there)

pub loop-place-preserved : goal.loop-place-preserved
loop-place-preserved c =
    let moves = c.args.world.now.moves in
    let (left, leaves, is) = c.in-Some.ensures.value in
    let same = same_messages c.unnumbered.result c.unnumbered-sought.result in
    below_more (λ k. IsAlikeAt moves c.args.message.now k → ⊥) c.loop-place.place c.loop-place.invariant
    (λ at.
    let (other, there, alike) = at in
    let found_alike = subst (λ (m : Sent). unnumbered m ≡ unnumbered c.args.message.now)
    (place_is_one schedules_rest_on_runs.one_list moves c.loop-place.place other c.in-Some.found there (left, leaves, sym is)) alike in
    false≢true (sym c.if-eq.false ∙ (c.eq.ensures ∙ same.1 (c.unnumbered.ensures ∙ found_alike ∙ sym c.unnumbered-sought.ensures))))

pub returns-clause-none : goal.returns-clause-none
returns-clause-none c e =
    let (left, leaves, is) = c.under_way-place-end.ensures.value in
    none_alike schedules_rest_on_runs.one_list c.args.world.now.moves c.args.message.now left c.loop-place.place leaves
    (let past = c.loop-place-test.false in omega (arith, is, past)) c.loop-place.invariant
