use Rattle.std.proofs.Common.{rules, ℕ, ◌+◌, Option, sym, subst}
use Rattle.ra_schedule.specs.declared.script.lock_order.OutOfOrder.{OutOfOrder}
use Rattle.ra_schedule.specs.LockOrder.{LocksOutOfOrder}
use Rattle.ra_schedule.proofs.FirstLocks.{FirstSoFar, end_within, none_here, some_here, first_of_all, none_of_all, below_of_client, ops_of}
use Rattle.ra_schedule.proofs.LockPlaces.{out_of_order_below}
use Rattle.ra_schedule.proofs.script.lock_order.out_of_order_of.Goals as goal
use Rattle.ra_schedule.proofs.script.lock_order.out_of_order_of.Goals.{in-Some, in_default}

pub locks_below-requires : goal.locks_below-requires
locks_below-requires c =
    end_within c.in_ok-ops.ops.now c.args.client c.loop-since.since c.loop-since.end c.loop-since.first c.loop-since.invariant

pub loop-since-preserved : goal.loop-since-preserved
loop-since-preserved c =
    let ops = c.in_ok-ops.ops.now in
    let client = c.args.client in
    let since = c.loop-since.since in
    let end = c.loop-since.end in
    let first = c.loop-since.first in
    let P : ℕ → Option OutOfOrder → Type 0 = λ n f. FirstSoFar ops client (since + 1) n f in
    elim c.match-locks_below.branch [
      | in-Some w ↦
          let place = w.in-Some.place in
          let (sooner, here, none) = w.in-Some.ensures.some in
          let new = some_here ops client since end place first c.loop-since.invariant sooner here none in
          subst (λ (n : ℕ). P n c.match-locks_below.first) (sym w.end-is) (subst (P place) (sym w.first-is) new)
      | in_default w ↦
          let new = none_here ops client since end first c.loop-since.invariant (w.in_default.ensures.none (search rules)) in
          subst (λ (n : ℕ). P n c.match-locks_below.first) (sym w.end-is) (subst (P end) (sym w.first-is) new)
    ]

pub returns : goal.returns
returns c =
    let script = c.args.script.now in
    let client = c.args.client in
    let ops = c.in_ok-ops.ops.now in
    let since = c.loop-since.since in
    let end = c.loop-since.end in
    let first = c.loop-since.first in
    let so_far = c.loop-since.invariant in
    let past = c.loop-since-test.false in
    record {
      some = below_of_client first script client ops c.in_ok-ops.ensures (first_of_all ops client since end first so_far past);
      none = λ none h.
          let p = out_of_order_below ops (ops_of LocksOutOfOrder script client ops c.in_ok-ops.ensures h) in
          none_of_all ops client since end first so_far past none p.0 p.1 p.2;
    }
