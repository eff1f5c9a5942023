use Rattle.std.proofs.Common.{◌≡◌, ◌∙◌, length, sym, ap, Some, arith}
use Rattle.std.proofs.lemmas.Bool.{false≢true, ltb-true}
use Rattle.std.proofs.lemmas.Option.{same_Some}
use Rattle.ra_trace.proofs.Due.{found_at, none_at, next_left, first_left}
use Rattle.ra_trace.proofs.checker.Checker.is_next.Goals as goal

pub returns-in-Some-clause-fits : goal.returns-in-Some-clause-fits
returns-in-Some-clause-fits c = λ _.
    omega (arith, ltb-true c.args.self.now.told (length c.as_slice.result.now) (sym c.in-Some.ensures.lookup.0))

pub returns-in-Some-clause-next : goal.returns-in-Some-clause-next
returns-in-Some-clause-next c is =
    let sends = c.args.self.now.sends.items in
    let at = found_at c.as_slice.result.now sends c.args.self.now.told c.in-Some.next.now c.as_slice.ensures c.in-Some.ensures.lookup.0 c.in-Some.ensures.lookup.1 in
    let same : c.in-Some.next.now ≡ c.args.message.now = (c.equal_is_same.ensures.messages c.in-Some.next.now c.args.message.now).0 (sym c.eq.ensures ∙ is) in
    next_left sends c.args.self.now.told c.args.message.now (at ∙ ap Some same)

pub returns-in-Some-clause-other : goal.returns-in-Some-clause-other
returns-in-Some-clause-other c is others e =
    let sends = c.args.self.now.sends.items in
    let at = found_at c.as_slice.result.now sends c.args.self.now.told c.in-Some.next.now c.as_slice.ensures c.in-Some.ensures.lookup.0 c.in-Some.ensures.lookup.1 in
    let there = first_left sends c.args.self.now.told c.args.message.now others e in
    let same : c.in-Some.next.now ≡ c.args.message.now = same_Some c.in-Some.next.now c.args.message.now (sym at ∙ there) in
    false≢true (sym is ∙ c.eq.ensures ∙ (c.equal_is_same.ensures.messages c.in-Some.next.now c.args.message.now).1 same)

pub returns-in-None-clause-fits : goal.returns-in-None-clause-fits
returns-in-None-clause-fits c = λ none. absurd (false≢true none)

pub returns-in-None-clause-next : goal.returns-in-None-clause-next
returns-in-None-clause-next c = λ none. absurd (false≢true none)

pub returns-in-None-clause-other : goal.returns-in-None-clause-other
returns-in-None-clause-other c is others e =
    let sends = c.args.self.now.sends.items in
    none_at c.as_slice.result.now sends c.args.self.now.told c.args.message.now c.as_slice.ensures c.in-None.ensures.lookup.0
    (first_left sends c.args.self.now.told c.args.message.now others e)
