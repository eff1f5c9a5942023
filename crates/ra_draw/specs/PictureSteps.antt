-- What is known of a refusal of the two steps of drawing: to read a text, and to write the picture of a part of it.
use Rattle.std.specs.Prelude.{◌≡◌, ◌≢◌, ℕ, ◌<◌, ◌≤◌, List, [], ◌++◌, Option, length}
use Rattle.std.specs.Io.KnownBytes.{Appends, Consumes}
use Rattle.ra_draw.specs.declared.error.DrawError.{DrawError}
use Rattle.ra_draw.specs.declared.error.DrawError.TheVariants.{Read, Limit, NoLines, TooLong, Memory, Write}
use Rattle.ra_text.specs.declared.drawn_part.Part.{Part}
use Rattle.ra_draw.specs.Drawing.{IsDrawable, drawn_lines, line_limit}
use Rattle.ra_draw.specs.Lines.{line_count}
use Rattle.ra_draw.specs.Pictures.{IsPicture}

-- how much was taken from the reader if this is why a text was not read; it is never about a part or a writer
abbrev pub IsUnread : (old new : Option (List ℕ)) → DrawError → Type 0
IsUnread old new Read = (taken : List ℕ) × (length taken ≤ 16777216) × Consumes old new taken
IsUnread old new Limit = (taken : List ℕ) × (length taken ≡ 16777217) × Consumes old new taken
IsUnread old new (NoLines lines) = ⊥
IsUnread old new TooLong = ⊥
IsUnread old new Memory = (taken : List ℕ) × (length taken ≤ 16777217) × Consumes old new taken
IsUnread old new Write = ⊥

-- what is so if this is why a picture was not written, or not all of it; it is never about a reader
abbrev pub IsUnwritten : Part → (text : List ℕ) → (before after : Option (List ℕ)) → (Untouched : Type 0) → DrawError
    → Type 0
IsUnwritten part text before after Untouched Read = ⊥
IsUnwritten part text before after Untouched Limit = ⊥
IsUnwritten part text before after Untouched (NoLines lines) =
    (lines ≡ line_count text) × (drawn_lines part text ≡ 0) × Untouched
IsUnwritten part text before after Untouched TooLong = (line_limit < drawn_lines part text) × Untouched
IsUnwritten part text before after Untouched Memory = Untouched
IsUnwritten part text before after Untouched Write =
    IsDrawable part text × (prefix rest : List ℕ) × IsPicture part text (prefix ++ rest) × (rest ≢ [])
    × Appends before after prefix
