use Rattle.std.proofs.Common.{◌≡◌, ◌&&◌, false, get_or, sym, ap, ◌∙◌, arith}
use Rattle.std.specs.Char.{is_ascii_digit}
use Rattle.std.specs.List.{list_all}
use Rattle.std.proofs.lemmas.Bool.{false≢true}
use Rattle.std.proofs.lemmas.List.Folds.{list_all_at, list_all_more}
use Rattle.ra_schedule.proofs.Numbers.{decimal_more, small_power, no_decimal}
use Rattle.ra_schedule.proofs.choice.choices_reading.decimal_of.Goals as goal

pub returns-then-not-is_ascii_digit : goal.returns-then-not-is_ascii_digit
returns-then-not-is_ascii_digit c =
    let digits = c.args.digits.now in
    let other : list_all is_ascii_digit digits ≡ false =
    list_all_at is_ascii_digit digits c.loop-digit.digit-index 0 c.loop-digit-test.true (sym c.is_ascii_digit.ensures.value ∙ c.if-not-is_ascii_digit.true) in
    no_decimal digits (λ is. false≢true (sym other ∙ is.each))

pub loop-digit-preserved : goal.loop-digit-preserved
loop-digit-preserved c =
    let digits = c.args.digits.now in
    let i = c.loop-digit.digit-index in
    let here = sym c.is_ascii_digit.ensures.value ∙ c.if-not-is_ascii_digit.false in
    let more = decimal_more digits i c.loop-digit.value c.from.result c.loop-digit-test.true here c.from.ensures c.loop-digit.invariant.so_far c.loop-digit.invariant.small in
    record {
      each = list_all_more is_ascii_digit digits i 0 c.loop-digit-test.true ∙ ap (λ b. b && is_ascii_digit (get_or digits i 0)) c.loop-digit.invariant.each ∙ here;
      so_far = more.0;
      small = more.1;
    }

pub overflow_mul-value : goal.overflow_mul-value
overflow_mul-value c =
    let small = small_power c.loop-digit.value c.loop-digit.digit-index c.loop-digit.invariant.small (omega arith) in omega arith

pub overflow_add-value : goal.overflow_add-value
overflow_add-value c =
    let small = small_power c.loop-digit.value c.loop-digit.digit-index c.loop-digit.invariant.small (omega arith) in
    omega (arith, c.from.type_inv)
