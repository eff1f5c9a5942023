-- How the text of a picture grows.
use Rattle.std.specs.Prelude.{◌≡◌, ℕ, false, List, ◌++◌}
use Rattle.ra_draw.specs.declared.svg.svg_writer.SvgWriter.{SvgWriter}

-- the writer has this text so far, unless memory ran out
abbrev pub Says : SvgWriter → List ℕ → Type 0
Says writer bytes = writer.is_out ≡ false → writer.text.items ≡ bytes

-- this was added, and nothing else
pub record Adds (old : SvgWriter) (part : List ℕ) (new : SvgWriter) : Type 0 where
  pub says : (before : List ℕ) → Says old before → Says new (before ++ part)
