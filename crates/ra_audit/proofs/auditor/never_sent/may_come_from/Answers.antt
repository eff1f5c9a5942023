use Rattle.std.proofs.Common.{◌≤◌, inl, inr, sym, arith}
use Rattle.std.proofs.lemmas.Bool.{ltb-true, ltb-false, leb-true, leb-false}
use Rattle.ra_audit.proofs.UnsentFrames.{all_settled, none_so_far, none_at}
use Rattle.ra_audit.proofs.auditor.never_sent.may_come_from.Goals as goal

pub returns-then-latest-clock-clause-may : goal.returns-then-latest-clock-clause-may
returns-then-latest-clock-clause-may c = λ yes. inr (omega (arith, c.if-latest-clock.true, c.latest.ensures), ltb-true c.args.known c.args.came yes)

pub returns-then-latest-clock-clause-none : goal.returns-then-latest-clock-clause-none
returns-then-latest-clock-clause-none c = λ no low.
    none_so_far c.args.sender.now c.args.clock (c.args.came ≤ c.args.known) c.next-next.ensures.taken (omega (arith, c.if-latest-clock.true, c.latest.ensures))
    (ltb-false c.args.known c.args.came no)

pub returns-in-Some-clause-may : goal.returns-in-Some-clause-may
returns-in-Some-clause-may c = λ yes.
    inl (omega (arith, c.if-latest-clock.false, c.latest.ensures), c.in-Some.first, sym c.in-Some.ensures.value, leb-true c.in-Some.first.clock c.args.clock yes)

pub returns-in-Some-clause-none : goal.returns-in-Some-clause-none
returns-in-Some-clause-none c = λ no low.
    none_at c.args.sender.now c.args.clock (c.args.came ≤ c.args.known) c.next-next.ensures.taken c.in-Some.first c.in-Some.ensures.value low
    (leb-false c.in-Some.first.clock c.args.clock no)

pub returns-in-None-clause-none : goal.returns-in-None-clause-none
returns-in-None-clause-none c = λ no low.
    let s = c.args.sender.now in
    absurd (omega (arith, low, all_settled s.settled s.waiting c.in-None.ensures.value, c.if-latest-clock.false, c.latest.ensures))
