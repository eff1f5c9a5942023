use Rattle.std.proofs.Common.{ℕ, ◌≤◌, ◌^◌, refl, sym, ap, subst}
use Rattle.ra_node.specs.Node.{IsConsistentNode}
use Rattle.ra_book.specs.Refused.{refusal_of_ask, refusal_of_leave, refusal_of_cancel, refusal_of_receive}
use Rattle.ra_book.specs.declared.timed_node.TimedNode.TheInside.{Inside}
use Rattle.ra_book.specs.Timed.{Timed, Refuses, timed_of}
use Rattle.ra_book.proofs.Running.{not_ok}
use Rattle.ra_book.proofs.TimedTaking.{NodeTakes, ask_denied, leave_denied, cancel_denied, receive_denied, denied, taken, taken_by, forgets_as, fit_at}
use Rattle.ra_book.proofs.timed_node.TimedNode.take.Goals as goal
use Rattle.ra_book.proofs.timed_node.TimedNode.take.Goals.{in-Ask+in_ok-outcome-in-Ask, in-Leave+in_ok-outcome-in-Leave, in-Cancel+in_ok-outcome-in-Cancel, in-Forget, in-Receive+in_ok-outcome-in-Receive}

-- ---- There is no clock

pub returns-in_default-clause-taken : goal.returns-in_default-clause-taken
returns-in_default-clause-taken c =
    (refl, subst (λ (t : Timed). Refuses t c.args.kind.now c.event_refusal.result) c.self.view_is c.event_refusal.ensures)

-- ---- The node does not take it

pub returns-in_err-outcome-in-Ask-clause-taken : goal.returns-in_err-outcome-in-Ask-clause-taken
returns-in_err-outcome-in-Ask-clause-taken c =
    let at = timed_of c.self.inside in
    let refused = c.in_err-outcome-in-Ask in
    let e = refused.field-0.0 in
    denied c.args.self.now at c.args.kind.now c.self.view_is _ (refusal_of_ask e) refused.ensures.err
    (ask_denied at.node c.args.kind.now _ _ _ c.in-Ask.is e refused.ensures.busy refused.ensures.exhausted refused.ensures.allowed)
    (subst (λ (k : ℕ). k ≤ 2 ^ 62) c.in-Ok.ensures.0 c.in-Ok.ensures.1) c.from_residual.result c.from_residual.ensures.1

pub returns-in_err-outcome-in-Ask-clause-fits : goal.returns-in_err-outcome-in-Ask-clause-fits
returns-in_err-outcome-in-Ask-clause-fits c = not_ok _ _ c.from_residual.result c.from_residual.ensures.1

pub returns-in_err-outcome-in-Leave-clause-taken : goal.returns-in_err-outcome-in-Leave-clause-taken
returns-in_err-outcome-in-Leave-clause-taken c =
    let at = timed_of c.self.inside in
    let refused = c.in_err-outcome-in-Leave in
    let e = refused.field-0.0 in
    denied c.args.self.now at c.args.kind.now c.self.view_is _ (refusal_of_leave e) refused.ensures.left.err
    (leave_denied at.node c.args.kind.now _ _ _ c.in-Leave.is e refused.ensures.left)
    (subst (λ (k : ℕ). k ≤ 2 ^ 62) c.in-Ok.ensures.0 c.in-Ok.ensures.1) c.from_residual-in_err-outcome-in-Leave.result c.from_residual-in_err-outcome-in-Leave.ensures.1

pub returns-in_err-outcome-in-Leave-clause-fits : goal.returns-in_err-outcome-in-Leave-clause-fits
returns-in_err-outcome-in-Leave-clause-fits c = not_ok _ _ c.from_residual-in_err-outcome-in-Leave.result c.from_residual-in_err-outcome-in-Leave.ensures.1

pub returns-in_err-outcome-in-Cancel-clause-taken : goal.returns-in_err-outcome-in-Cancel-clause-taken
returns-in_err-outcome-in-Cancel-clause-taken c =
    let at = timed_of c.self.inside in
    let refused = c.in_err-outcome-in-Cancel in
    let e = refused.field-0.0 in
    denied c.args.self.now at c.args.kind.now c.self.view_is _ (refusal_of_cancel e) refused.ensures.cancelled.err
    (cancel_denied at.node c.args.kind.now _ _ _ c.in-Cancel.is e refused.ensures.cancelled)
    (subst (λ (k : ℕ). k ≤ 2 ^ 62) c.in-Ok.ensures.0 c.in-Ok.ensures.1) c.from_residual-in_err-outcome-in-Cancel.result c.from_residual-in_err-outcome-in-Cancel.ensures.1

pub returns-in_err-outcome-in-Cancel-clause-fits : goal.returns-in_err-outcome-in-Cancel-clause-fits
returns-in_err-outcome-in-Cancel-clause-fits c = not_ok _ _ c.from_residual-in_err-outcome-in-Cancel.result c.from_residual-in_err-outcome-in-Cancel.ensures.1

pub returns-in_err-outcome-in-Receive-clause-taken : goal.returns-in_err-outcome-in-Receive-clause-taken
returns-in_err-outcome-in-Receive-clause-taken c =
    let at = timed_of c.self.inside in
    let refused = c.in_err-outcome-in-Receive in
    let e = refused.field-0.0 in
    denied c.args.self.now at c.args.kind.now c.self.view_is _ (refusal_of_receive e) refused.ensures.err
    (receive_denied at.node c.args.kind.now _ c.in-Receive.is e refused.ensures.address refused.ensures.allowed)
    (subst (λ (k : ℕ). k ≤ 2 ^ 62) c.in-Ok.ensures.0 c.in-Ok.ensures.1) c.from_residual-in_err-outcome-in-Receive.result c.from_residual-in_err-outcome-in-Receive.ensures.1

pub returns-in_err-outcome-in-Receive-clause-fits : goal.returns-in_err-outcome-in-Receive-clause-fits
returns-in_err-outcome-in-Receive-clause-fits c = not_ok _ _ c.from_residual-in_err-outcome-in-Receive.result c.from_residual-in_err-outcome-in-Receive.ensures.1

-- ---- It takes it

pub invariant_of-self-2 : goal.invariant_of-self-2
invariant_of-self-2 c =
    elim c.match-kind.branch [
      | in-Ask+in_ok-outcome-in-Ask w ↦ subst IsConsistentNode (sym (ap (λ (t : Inside). t.node) w.self-inside-is)) w.ask.ensures.consistent
      | in-Leave+in_ok-outcome-in-Leave w ↦ subst IsConsistentNode (sym (ap (λ (t : Inside). t.node) w.self-inside-is)) w.leave.ensures.consistent
      | in-Cancel+in_ok-outcome-in-Cancel w ↦ subst IsConsistentNode (sym (ap (λ (t : Inside). t.node) w.self-inside-is)) w.cancel.ensures.consistent
      | in-Forget w ↦ subst IsConsistentNode (sym (ap (λ (t : Inside). t.node) w.self-inside-is)) w.forget.ensures.consistent
      | in-Receive+in_ok-outcome-in-Receive w ↦ subst IsConsistentNode (sym (ap (λ (t : Inside). t.node) w.self-inside-is)) w.receive.ensures.consistent
    ]

takes : (c : goal.After-self-1) → NodeTakes c.self.inside.node c.args.kind.now c.match-kind.outcome c.match-kind.self-inside.node
takes c =
    elim c.match-kind.branch [
      | in-Ask+in_ok-outcome-in-Ask w ↦ taken_by _ _ _ _ _ _ _ w.in-Ask.is w.outcome-is (ap (λ (t : Inside). t.node) w.self-inside-is) tt w.in_ok-outcome-in-Ask.ensures.ok
      | in-Leave+in_ok-outcome-in-Leave w ↦ taken_by _ _ _ _ _ _ _ w.in-Leave.is w.outcome-is (ap (λ (t : Inside). t.node) w.self-inside-is) tt w.in_ok-outcome-in-Leave.ensures.left.ok
      | in-Cancel+in_ok-outcome-in-Cancel w ↦ taken_by _ _ _ _ _ _ _ w.in-Cancel.is w.outcome-is (ap (λ (t : Inside). t.node) w.self-inside-is) tt w.in_ok-outcome-in-Cancel.ensures.cancelled.ok
      | in-Forget w ↦ taken_by _ _ _ _ _ _ _ w.in-Forget.is w.outcome-is (ap (λ (t : Inside). t.node) w.self-inside-is) tt
          (forgets_as c.self.inside.node w.forget.new.self w.new.result.items w.new-in-Forget.result.items w.new.ensures w.new-in-Forget.ensures w.forget.ensures.forgotten)
      | in-Receive+in_ok-outcome-in-Receive w ↦ taken_by _ _ _ _ _ _ _ w.in-Receive.is w.outcome-is (ap (λ (t : Inside). t.node) w.self-inside-is) (w.in_ok-outcome-in-Receive.ensures.allowed.0 tt) w.in_ok-outcome-in-Receive.ensures.ok
    ]

pub returns-clause-taken : goal.returns-clause-taken
returns-clause-taken c =
    taken c.args.self.now (timed_of c.self.inside) c.args.kind.now c.self.view_is c.match-kind.self-inside.node c.in-Ok.next c.match-kind.outcome
    (takes c).for_it (takes c).event c.in-Ok.ensures

pub returns-clause-fits : goal.returns-clause-fits
returns-clause-fits c =
    let outcome = c.match-kind.outcome in
    fit_at c.self.inside.node c.match-kind.self-inside.node c.self.inside.clock c.in-Ok.next c.args.kind.now outcome.sends.items outcome.marks.items
    c.self.invariant (takes c).for_it (takes c).event c.requires c.in-Ok.ensures
