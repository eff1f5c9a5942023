use Rattle.std.proofs.Common.{rules, ◌+◌, refl, sym, subst, arith, below_more}
use Rattle.std.proofs.lemmas.Bool.{false≢true}
use Rattle.ra_schedule.specs.LockOrder.{IsOf, LocksOutOfOrder, IsFirstBelow}
use Rattle.ra_schedule.proofs.FirstLocks.{weaker, not_before, no_client}
use Rattle.ra_schedule.proofs.LockPlaces.{below_out_of_order}
use Rattle.ra_schedule.proofs.script.lock_order.first_out_of_order.Goals as goal

pub returns-in-Some-clause-found : goal.returns-in-Some-clause-found
returns-in-Some-clause-found c =
    let found = c.in-Some.found in
    let client = c.loop-place.place + 1 in (
      λ _. (
        client,
        weaker (λ ops. IsFirstBelow ops found.since found.place) LocksOutOfOrder c.args.script.now client
            (λ ops first. below_out_of_order ops found.since found.place first.is) c.in-Some.ensures.some.1,
      ),
      λ _. refl,
    )

pub returns-in-Some-clause-first : goal.returns-in-Some-clause-first
returns-in-Some-clause-first c =
    let script = c.args.script.now in
    let found = c.in-Some.found in
    let (same, is) = c.in-Some.ensures.some in
    record {
      is = subst (IsOf (λ ops. IsFirstBelow ops found.since found.place) script) (sym same) is;
      first = λ client h. let before = not_before LocksOutOfOrder script c.loop-place.place c.loop-place.invariant client h in omega (arith, same);
    }

pub loop-place-preserved : goal.loop-place-preserved
loop-place-preserved c =
    below_more (λ k. IsOf LocksOutOfOrder c.args.script.now (k + 1) → ⊥) c.loop-place.place c.loop-place.invariant
    (c.in_default.ensures.none (search rules))

pub returns-clause-found : goal.returns-clause-found
returns-clause-found c = (
  λ is. absurd (false≢true is),
  λ of. absurd (no_client LocksOutOfOrder c.args.script.now c.loop-place.place
      (let len = c.clients-place-end.ensures.value in omega arith) c.loop-place.invariant of),
)
