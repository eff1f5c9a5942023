use Rattle.std.proofs.Common.{rules, ◌≡◌, Some, slice_get, ap, ◌∙◌, arith}
use Rattle.std.proofs.lemmas.Bool.{false≢true}
use Rattle.ra_schedule.specs.declared.script.Op.TheVariants.{Unlock}
use Rattle.ra_schedule.proofs.LockPlaces.{read_at, kept_more, kept_to_the_end, not_kept}
use Rattle.ra_schedule.proofs.script.lock_order.never_unlocks.Goals as goal

pub returns-in_default : goal.returns-in_default
returns-in_default c = (λ is. absurd (false≢true is), λ b. absurd (c.in_default.ensures.none (search rules) b.name b.locks))

pub returns-then-eq : goal.returns-then-eq
returns-then-eq c =
    let ops = c.args.ops.now in
    let later = c.loop-later.later in
    let op = c.index-ops-later.result in
    let here : slice_get ops later ≡ Some op = read_at ops later op (omega arith) c.index-ops-later.is in
    let same : op ≡ Unlock c.in-Some.held = search rules in (
      λ is. absurd (false≢true is),
      λ b. absurd (not_kept ops c.in-Some.held c.args.place later (omega arith) c.in-Some.ensures.some.1 (here ∙ ap Some same) b),
    )

pub loop-later-preserved : goal.loop-later-preserved
loop-later-preserved c =
    let ops = c.args.ops.now in
    let later = c.loop-later.later in
    let op = c.index-ops-later.result in
    let here : slice_get ops later ≡ Some op = read_at ops later op (omega arith) c.index-ops-later.is in
    let other : op ≡ Unlock c.in-Some.held → ⊥ = search rules in
    kept_more ops c.in-Some.held c.args.place later op here c.loop-later.invariant other

pub returns : goal.returns
returns c = (
  λ _. kept_to_the_end c.args.ops.now c.in-Some.held c.args.place c.loop-later.later (let past = c.loop-later-test.false in omega arith) c.in-Some.ensures.some.1 c.loop-later.invariant,
  λ _. search rules,
)
