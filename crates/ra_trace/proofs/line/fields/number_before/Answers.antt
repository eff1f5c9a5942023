use Rattle.std.proofs.Common.{rules, ◌≡◌, ◌≤◌, ◌^◌, ◌+◌, false, Some, None, take, get_or, arith}
use Rattle.std.specs.Char.{is_ascii_digit}
use Rattle.std.specs.Str.Parse.{digits_value}
use Rattle.ra_trace.proofs.Cuts.{to_end}
use Rattle.ra_trace.proofs.Decimals.{one_more}
use Rattle.ra_trace.proofs.Befores.{before_here, before_none, before_unread, free_more, not_all}
use Rattle.ra_trace.proofs.line.fields.number_before.Goals as goal

-- ---- The first space is here

pub returns-in_default-clause-value : goal.returns-in_default-clause-value
returns-in_default-clause-value c =
    before_here c.args.low c.args.high c.args.text.now c.loop-end.end None c.loop-end-test.true c.if-byte-eq32.true c.loop-end.invariant.free c.in_default.ensures.value

pub returns-then-byte-eq32-clause-value : goal.returns-then-byte-eq32-clause-value
returns-then-byte-eq32-clause-value c =
    let text = c.args.text.now in
    let is = before_here c.args.low c.args.high text c.loop-end.end (Some c.in-Some.number) c.loop-end-test.true c.if-byte-eq32.true c.loop-end.invariant.free
    c.in-Some.ensures.value in
    rw (is, to_end text c.loop-end.end)

-- ---- A byte is neither a space nor a digit, or the number does not fit

pub returns-then-not-is_ascii_digit-clause-value : goal.returns-then-not-is_ascii_digit-clause-value
returns-then-not-is_ascii_digit-clause-value c =
    let text = c.args.text.now in
    let end = c.loop-end.end in
    let other : is_ascii_digit (get_or text end 0) ≡ false = search rules in
    before_unread c.args.low c.args.high text (end + 1) (search rules) (free_more text end c.loop-end.invariant.free c.if-byte-eq32.false)
    (λ each. absurd (not_all text end c.loop-end-test.true other each))

pub returns-in_default-checked_mul-clause-value : goal.returns-in_default-checked_mul-clause-value
returns-in_default-checked_mul-clause-value c =
    let text = c.args.text.now in
    let end = c.loop-end.end in
    let more = one_more text end c.loop-end.number c.loop-end-test.true (search rules) c.loop-end.invariant.digits c.loop-end.invariant.value in
    let large : 2 ^ 64 ≤ digits_value 10 (take (end + 1) text) = grind (arith, more.1) in
    before_unread c.args.low c.args.high text (end + 1) (search rules) (free_more text end c.loop-end.invariant.free c.if-byte-eq32.false) (λ each. large)

pub returns-in_default-checked_add-clause-value : goal.returns-in_default-checked_add-clause-value
returns-in_default-checked_add-clause-value c =
    let text = c.args.text.now in
    let end = c.loop-end.end in
    let more = one_more text end c.loop-end.number c.loop-end-test.true (search rules) c.loop-end.invariant.digits c.loop-end.invariant.value in
    let large : 2 ^ 64 ≤ digits_value 10 (take (end + 1) text) = grind (arith, more.1) in
    before_unread c.args.low c.args.high text (end + 1) (search rules) (free_more text end c.loop-end.invariant.free c.if-byte-eq32.false) (λ each. large)

pub loop-end-preserved : goal.loop-end-preserved
loop-end-preserved c =
    let text = c.args.text.now in
    let end = c.loop-end.end in
    let more = one_more text end c.loop-end.number c.loop-end-test.true (search rules) c.loop-end.invariant.digits c.loop-end.invariant.value in
    record { free = free_more text end c.loop-end.invariant.free c.if-byte-eq32.false; digits = more.0; value = grind (arith, more.1) }

-- ---- There is no space

pub returns-clause-value : goal.returns-clause-value
returns-clause-value c = before_none c.args.low c.args.high c.args.text.now (λ k inside. c.loop-end.invariant.free k (omega arith))
