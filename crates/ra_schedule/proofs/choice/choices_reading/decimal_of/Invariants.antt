use Rattle.std.proofs.Common.{◌≡◌, ◌<◌, ◌^◌, true, take}
use Rattle.std.specs.Char.{is_ascii_digit}
use Rattle.std.specs.List.{list_all}
use Rattle.ra_schedule.specs.ChoicesText.{decimal_value}
use Rattle.ra_schedule.proofs.choice.choices_reading.decimal_of.Given as goal

-- the bytes so far are digits, and this is their number
abbrev pub invariant-loop-digit : goal.invariant-loop-digit
invariant-loop-digit l = record {
  each : list_all is_ascii_digit (take l.digit-index l.digits) ≡ true;
  so_far : l.value ≡ decimal_value (take l.digit-index l.digits);
  small : l.value < 10 ^ l.digit-index;
}
