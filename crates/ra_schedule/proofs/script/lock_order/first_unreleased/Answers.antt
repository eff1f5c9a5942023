use Rattle.std.proofs.Common.{rules, ◌+◌, refl, sym, subst, arith, below_more}
use Rattle.std.proofs.lemmas.Bool.{false≢true}
use Rattle.ra_schedule.specs.LockOrder.{IsOf, EndsHolding, IsFirstNeverUnlocked}
use Rattle.ra_schedule.proofs.FirstLocks.{weaker, not_before, no_client}
use Rattle.ra_schedule.proofs.LockPlaces.{kept_held}
use Rattle.ra_schedule.proofs.script.lock_order.first_unreleased.Goals as goal

pub returns-in-Some-clause-found : goal.returns-in-Some-clause-found
returns-in-Some-clause-found c =
    let found = c.in-Some.found in
    let client = c.loop-place.place + 1 in (
      λ _. (
        client,
        weaker (λ ops. IsFirstNeverUnlocked ops found.place) EndsHolding c.args.script.now client
            (λ ops first. kept_held ops found.place first.is) c.in-Some.ensures.some.1,
      ),
      λ _. refl,
    )

pub returns-in-Some-clause-first : goal.returns-in-Some-clause-first
returns-in-Some-clause-first c =
    let script = c.args.script.now in
    let found = c.in-Some.found in
    let (same, is) = c.in-Some.ensures.some in
    record {
      is = subst (IsOf (λ ops. IsFirstNeverUnlocked ops found.place) script) (sym same) is;
      first = λ client h. let before = not_before EndsHolding script c.loop-place.place c.loop-place.invariant client h in omega (arith, same);
    }

pub loop-place-preserved : goal.loop-place-preserved
loop-place-preserved c =
    below_more (λ k. IsOf EndsHolding c.args.script.now (k + 1) → ⊥) c.loop-place.place c.loop-place.invariant
    (c.in_default.ensures.none (search rules))

pub returns-clause-found : goal.returns-clause-found
returns-clause-found c = (
  λ is. absurd (false≢true is),
  λ of. absurd (no_client EndsHolding c.args.script.now c.loop-place.place
      (let len = c.clients-place-end.ensures.value in omega arith) c.loop-place.invariant of),
)
