use Rattle.std.proofs.Common.{◌≡◌, ◌≢◌, ℕ, ◌<◌, true, get_or, take}
use Rattle.std.specs.Char.{is_ascii_digit}
use Rattle.std.specs.List.{list_all}
use Rattle.std.specs.Str.Parse.{digits_value}
use Rattle.ra_trace.proofs.line.fields.number_before.Given as goal

-- each byte so far is a digit, none is a space, and this is the number that they write
abbrev pub invariant-loop-end : goal.invariant-loop-end
invariant-loop-end l = record {
  free : (k : ℕ) → k < l.end → get_or l.text k 0 ≢ 32;
  digits : list_all is_ascii_digit (take l.end l.text) ≡ true;
  value : l.number ≡ digits_value 10 (take l.end l.text);
}
