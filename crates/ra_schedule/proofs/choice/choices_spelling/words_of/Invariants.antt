use Rattle.std.proofs.Common.{◌≡◌, take, string_bytes}
use Rattle.ra_schedule.specs.ChoicesText.{spelled_all}
use Rattle.ra_schedule.proofs.choice.choices_spelling.words_of.Given as goal

-- the words of the choices so far
abbrev pub invariant-loop-place : goal.invariant-loop-place
invariant-loop-place l = string_bytes l.text ≡ spelled_all (take l.place l.choice-items)
