-- What is written of a text, and of a refusal, by the exit status.
use Rattle.std.specs.Prelude.{◌≡◌, ℕ, ◌≤◌, ◌⊎◌, List, Option}
use Rattle.std.specs.Io.KnownBytes.{Appends}
use Rattle.ra_cli.specs.declared.refusal_lines.CommandRefusal.{CommandRefusal}
use Rattle.ra_cli.specs.InputOutput.{BreaksOff}
use Rattle.ra_cli.specs.Refusals.{IsOfReader, IsOfWriter, refused_line, word_of}

-- a text was written, and this is the status; or the writer failed, only a prefix of the text was written, and the
-- status is 1
abbrev pub Writes : (text : List ℕ) → (wanted : ℕ) → (before after : Option (List ℕ)) → (status : ℕ) → Type 0
Writes text wanted before after status = ((status ≡ wanted) × Appends before after text)
    ⊎ ((status ≡ 1) × BreaksOff text before after)

-- status 2: only the line of a refusal was written, and the cause is not a failure of the reader or the writer
abbrev pub IsRefused : (before after : Option (List ℕ)) → Type 0
IsRefused before after = (refusal : CommandRefusal) × (IsOfReader refusal → ⊥) × (IsOfWriter refusal → ⊥)
    × Appends before after (refused_line (word_of refusal))

-- a refusal that is not the writer's: the reader failed and the line of the refusal was written, or the writer failed
-- at that line
abbrev pub IsSaid : CommandRefusal → (before after : Option (List ℕ)) → Type 0
IsSaid refusal before after = (IsOfReader refusal × Appends before after (refused_line (word_of refusal)))
    ⊎ BreaksOff (refused_line (word_of refusal)) before after

-- What a refusal leads to, by the status. `Unwritten` says that nothing was written.
pub record PrintsRefusal (refusal : CommandRefusal) (before after : Option (List ℕ)) (Unwritten : Type 0)
    (status : ℕ) : Type 0 where
  pub range : status ≤ 2
  pub not_done : 1 ≤ status
  -- after a fault of the writer nothing is written
  pub unwritten : IsOfWriter refusal → (status ≡ 1) × Unwritten
  pub refused : status ≡ 2 → (IsOfReader refusal → ⊥) × (IsOfWriter refusal → ⊥)
      × Appends before after (refused_line (word_of refusal))
  pub broken : status ≡ 1 → IsOfWriter refusal ⊎ ((IsOfWriter refusal → ⊥) × IsSaid refusal before after)
