use Rattle.std.proofs.Common.{rules, ℕ, List, ◌≡◌, ◌<◌, Some, slice_get, Ordering, Less, Equal, Greater, is_lt, true, refl, sym, ap, subst, ◌∙◌, arith}
use Rattle.std.specs.Cmp.{unsigned_Decides}
use Rattle.std.proofs.lemmas.Bool.{false≢true}
use Rattle.std.proofs.lemmas.Slice.Eq.{slice_eq-Decides}
use Rattle.ra_schedule.specs.declared.script.Op.TheVariants.{Unlock}
use Rattle.ra_schedule.specs.LockOrder.{IsBelow}
use Rattle.ra_schedule.proofs.OpFaults.{one_kind, one_locked, one_unlocked}
use Rattle.ra_schedule.proofs.LockPlaces.{read_at, passed_more, none_below, unlocked_first, below_found}
use Rattle.ra_schedule.proofs.script.lock_order.locks_below.Goals as goal
use Rattle.ra_schedule.proofs.script.lock_order.locks_below.Goals.{in-Unlock+else-eq, in-Lock+else-not-lt}

is_less : (o : Ordering) → is_lt o ≡ true → o ≡ Less
is_less Less is = refl
is_less Equal is = absurd (false≢true is)
is_less Greater is = absurd (false≢true is)

pub returns-in_err-held-clause-none : goal.returns-in_err-held-clause-none
returns-in_err-held-clause-none c none other less b = c.in_err-held.ensures.none (search rules) b.held b.locks_held

pub returns-in-Unlock-clause-none : goal.returns-in-Unlock-clause-none
returns-in-Unlock-clause-none c none =
    let ops = c.args.ops.now in
    let held = c.in_ok-held.held in
    let place = c.loop-place.place in
    let op = c.index-ops-place.result in
    let low : place < c.args.end = c.loop-place-test.true in
    let here : slice_get ops place ≡ Some op = read_at ops place op (omega arith) c.index-ops-place.is in
    let same : c.in-Unlock.name ≡ held = (slice_eq-Decides unsigned_Decides _ _ _ c.eq.ensures).0 c.if-eq.true in
    unlocked_first ops held c.args.since place (c.in_ok-held.ensures.some).1 c.loop-place.invariant (omega arith)
    (here ∙ ap Some (c.in-Unlock.is ∙ ap (λ (n : List ℕ). Unlock n) same)) c.args.end

pub returns-in-Lock-clause-some : goal.returns-in-Lock-clause-some
returns-in-Lock-clause-some c =
    let ops = c.args.ops.now in
    let held = c.in_ok-held.held in
    let place = c.loop-place.place in
    let op = c.index-ops-place.result in
    let low : place < c.args.end = c.loop-place-test.true in
    let here : slice_get ops place ≡ Some op = read_at ops place op (omega arith) c.index-ops-place.is in
    let locked = (c.in_ok-held.ensures.some).1 in (
      low,
      below_found ops held c.args.since place locked c.loop-place.invariant (omega arith) op here
          (c.in-Lock.name, c.in-Lock.field-1, c.in-Lock.is, λ below. false≢true (sym c.if-not-lt.true ∙ (c.lt.ensures ∙ ap is_lt below))),
      none_below ops held c.args.since place locked c.loop-place.invariant,
    )

pub loop-place-preserved : goal.loop-place-preserved
loop-place-preserved c =
    let ops = c.args.ops.now in
    let held = c.in_ok-held.held in
    let place = c.loop-place.place in
    let op = c.index-ops-place.result in
    let low : place < c.args.end = c.loop-place-test.true in
    let here : slice_get ops place ≡ Some op = read_at ops place op (omega arith) c.index-ops-place.is in
    elim c.match-ops-place.branch [
      | in-Unlock+else-eq w ↦
          passed_more ops held c.args.since place op here c.loop-place.invariant
          (λ is. false≢true (sym w.if-eq.false ∙ (slice_eq-Decides unsigned_Decides _ _ _ w.eq.ensures).1 (one_unlocked _ _ _ w.in-Unlock.is is)))
          (λ locks. one_kind _ _ _ _ locks.2 w.in-Unlock.is)
      | in-Lock+else-not-lt w ↦
          passed_more ops held c.args.since place op here c.loop-place.invariant
          (λ is. one_kind _ _ _ _ w.in-Lock.is is)
          (λ locks. locks.3 (subst (IsBelow held) (one_locked _ _ _ _ _ w.in-Lock.is locks.2) (is_less _ (sym w.lt.ensures ∙ w.if-not-lt.false))))
    ]

pub returns-clause-none : goal.returns-clause-none
returns-clause-none c none other less =
    none_below c.args.ops.now c.in_ok-held.held c.args.since c.loop-place.place (c.in_ok-held.ensures.some).1 c.loop-place.invariant other
    (let past = c.loop-place-test.false in omega arith)
