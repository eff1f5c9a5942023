use Rattle.std.proofs.Common.{rules, ◌+◌, ◌^◌, ◌≤◌, sym, ◌∙◌, arith, take_all, true≢false}
use Rattle.std.proofs.lemmas.List.Folds.{list_all_at}
use Rattle.std.specs.Char.{is_ascii_digit}
use Rattle.std.specs.Str.Parse.{digits_value}
use Rattle.ra_trace.proofs.Decimals.{one_more, first_below}
use Rattle.ra_trace.proofs.line.fields.value_of.Goals as goal

pub returns-then-not-is_ascii_digit-clause-none : goal.returns-then-not-is_ascii_digit-clause-none
returns-then-not-is_ascii_digit-clause-none c = λ each.
    absurd (true≢false (sym each ∙ list_all_at is_ascii_digit c.args.digits.now c.loop-byte.byte-index 0 c.loop-byte-test.true (search rules)))

pub returns-in_default-clause-none : goal.returns-in_default-clause-none
returns-in_default-clause-none c =
    let digits = c.args.digits.now in
    let more = one_more digits c.loop-byte.byte-index c.loop-byte.value c.loop-byte-test.true (search rules) c.loop-byte.invariant.digits c.loop-byte.invariant.value in
    let most = first_below digits (c.loop-byte.byte-index + 1) in
    let large : 2 ^ 64 ≤ digits_value 10 digits = grind (arith, more.1, most) in
    λ each. large

pub returns-in_default-checked_add-clause-none : goal.returns-in_default-checked_add-clause-none
returns-in_default-checked_add-clause-none c =
    let digits = c.args.digits.now in
    let more = one_more digits c.loop-byte.byte-index c.loop-byte.value c.loop-byte-test.true (search rules) c.loop-byte.invariant.digits c.loop-byte.invariant.value in
    let most = first_below digits (c.loop-byte.byte-index + 1) in
    let large : 2 ^ 64 ≤ digits_value 10 digits = grind (arith, more.1, most) in
    λ each. large

pub loop-byte-preserved : goal.loop-byte-preserved
loop-byte-preserved c =
    let more = one_more c.args.digits.now c.loop-byte.byte-index c.loop-byte.value c.loop-byte-test.true (search rules) c.loop-byte.invariant.digits c.loop-byte.invariant.value in
    record { digits = more.0; value = grind (arith, more.1) }

pub returns-clause-some : goal.returns-clause-some
returns-clause-some c =
    let whole = take_all c.loop-byte.byte-index c.args.digits.now (omega arith) in
    (rw whole at c.loop-byte.invariant.digits, rw whole at c.loop-byte.invariant.value)
