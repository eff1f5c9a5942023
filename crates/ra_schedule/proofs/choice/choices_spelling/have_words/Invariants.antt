use Rattle.std.proofs.Common.{ℕ, ◌<◌, slice_index_or}
use Rattle.ra_schedule.specs.declared.choice.Choice.{Choice}
use Rattle.ra_schedule.specs.ChoicesText.{HasText}
use Rattle.ra_schedule.proofs.choice.choices_spelling.have_words.Given as goal

-- the choices so far have words
abbrev pub invariant-loop-place : goal.invariant-loop-place
invariant-loop-place l = (k : ℕ) (d : Choice) → k < l.place → HasText (slice_index_or l.choices k d)
