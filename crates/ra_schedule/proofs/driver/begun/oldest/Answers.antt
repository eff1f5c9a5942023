use Rattle.std.proofs.Common.{◌<◌, ◌+◌, false, length, arith, refl, sym, ◌∙◌, below_more}
use Rattle.std.proofs.lemmas.Bool.{false≢true, true≢false}
use Rattle.ra_schedule.specs.Shrinking.{CanGoOn}
use Rattle.ra_schedule.proofs.LookedAt.{flag_of}
use Rattle.ra_schedule.proofs.OldestChoices.{none_below, none_at_all, nothing_under_way, first_message}
use Rattle.ra_schedule.proofs.driver.begun.oldest.Goals as goal
use Rattle.ra_schedule.proofs.driver.begun.oldest.Goals.{else-progress-gt0-via-then-progress-gt0+else-is_some, else-progress-gt0-via-else-progress-gt0}

pub returns-then-is_some-clause-some : goal.returns-then-is_some-clause-some
returns-then-is_some-clause-some c =
    let script = c.args.script.now in
    let moves = c.args.world.now.moves in
    let place = c.loop-place.place in
    let within : place < length c.args.clients.now = omega (arith, c.loop-place-test.true, c.clients-place-end.ensures.value, c.requires.length_is) in
    let done = (c.requires.each place (record { done = 0; waiting = false }) within).done in
    let flag = flag_of script moves (place + 1) c.enabled_step.result c.enabled_step.ensures.some c.enabled_step.ensures.none in (
      (let some = c.if-progress-gt0.true in omega (arith, done, some), flag.0 (sym c.is_some.ensures ∙ c.if-is_some.true)),
      none_below script moves place c.loop-place.invariant,
    )

pub returns-then-is_some-clause-none : goal.returns-then-is_some-clause-none
returns-then-is_some-clause-none c e = absurd (true≢false e)

pub loop-place-init : goal.loop-place-init
loop-place-init c k less on = absurd (omega (arith, less))

pub loop-place-preserved : goal.loop-place-preserved
loop-place-preserved c =
    let script = c.args.script.now in
    let moves = c.args.world.now.moves in
    let place = c.loop-place.place in
    let within : place < length c.args.clients.now = omega (arith, c.loop-place-test.true, c.clients-place-end.ensures.value, c.requires.length_is) in
    let done = (c.requires.each place (record { done = 0; waiting = false }) within).done in
    below_more (λ k. CanGoOn script moves (k + 1) → ⊥) place c.loop-place.invariant
    (λ on. elim c.else-progress-gt0.branch [
      | else-progress-gt0-via-then-progress-gt0+else-is_some w ↦
          let flag = flag_of script moves (place + 1) w.enabled_step.result w.enabled_step.ensures.some w.enabled_step.ensures.none in
          false≢true (sym w.if-is_some.false ∙ (w.is_some.ensures ∙ flag.1 on.1))
      | else-progress-gt0-via-else-progress-gt0 w ↦ let none = w.if-progress-gt0.false in let begun = on.0 in omega (arith, done, none, begun)
    ])

pub returns-then-under_way-eq0-clause-none : goal.returns-then-under_way-eq0-clause-none
returns-then-under_way-eq0-clause-none c e =
    let (left, leaves, is) = c.under_way.ensures.value in
    record {
      none_goes_on = none_at_all c.args.script.now c.args.world.now.moves c.loop-place.place
          (let len = c.clients-place-end.ensures.value in let past = c.loop-place-test.false in omega (arith, len, past)) c.loop-place.invariant;
      none_under_way = nothing_under_way c.args.world.now.moves left c.under_way.result leaves is c.if-under_way-eq0.true;
    }

pub returns-clause-some : goal.returns-clause-some
returns-clause-some c =
    let (left, leaves, is) = c.under_way.ensures.value in (
      none_at_all c.args.script.now c.args.world.now.moves c.loop-place.place
          (let len = c.clients-place-end.ensures.value in let past = c.loop-place-test.false in omega (arith, len, past)) c.loop-place.invariant,
      refl,
      first_message c.args.world.now.moves left c.under_way.result leaves is (λ zero. c.if-under_way-eq0.false zero),
    )
