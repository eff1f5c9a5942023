use Rattle.std.proofs.Common.{◌≡◌, ◌==◌, Some, length, take}
use Rattle.std.specs.List.{slice_split}
use Rattle.ra_schedule.specs.ChoicesText.{choices_in}
use Rattle.ra_schedule.proofs.Numbers.{IsChosenTo}
use Rattle.ra_schedule.proofs.choice.choices_reading.push_choices.Given as goal

-- the words so far spell the choices so far, and what the others spell comes after them
abbrev pub invariant-loop-word : goal.invariant-loop-word
invariant-loop-word l = record {
  so_far : choices_in (take (length l.yielded) (slice_split (λ b. b == 32) l.text)) ≡ Some l.choices.items;
  chosen : IsChosenTo (slice_split (λ b. b == 32) l.text) (length l.yielded) l.choices.items;
}
