-- A text that is made part by part, and remembers whether memory ran out.
use Rattle.std.specs.Prelude.{◌≡◌, ℕ, false, List, ◌++◌, string_bytes}
use Rattle.ra_text.specs.declared.draft.Draft.{Draft}

-- the draft is this text so far, unless memory ran out for some part
abbrev pub Says : Draft → List ℕ → Type 0
Says draft bytes = draft.refused ≡ false → string_bytes draft.text ≡ bytes

-- this part was added
pub record Adds (old : Draft) (part : List ℕ) (new : Draft) : Type 0 where
  pub says : (before : List ℕ) → Says old before → Says new (before ++ part)
