-- What is known of a text while it is followed to the end of a part.
use Rattle.std.specs.Prelude.{◌≡◌, ℕ, Bool, List, ◌++◌, fold, map, take}
use Rattle.ra_text.specs.declared.drawn_part.Part.{Part}
use Rattle.ra_trace.specs.declared.line.Line.{Line}
use Rattle.ra_draw.specs.declared.timeline.Row.{Row}
use Rattle.ra_draw.specs.declared.timeline.Timeline.{Timeline}
use Rattle.ra_draw.specs.Pictures.{nodes_with, row_at, rows_from}

-- the numbers of the lines that have a row so far
abbrev pub numbers_of : List Row → List ℕ
numbers_of rows = map (λ row. row.line) rows

-- nothing was noted of rows and nodes
pub record IsSamePage (old new : Timeline) : Type 0 where
  pub rows : new.rows.items ≡ old.rows.items
  pub nodes : new.nodes ≡ old.nodes

-- a line was noted, which has this number: its row, and the nodes after it
pub record Notes (trace drawn : Bool) (number : ℕ) (line : Line) (old new : Timeline) : Type 0 where
  pub rows : numbers_of new.rows.items ≡ numbers_of old.rows.items ++ row_at trace drawn number line
  pub nodes : new.nodes ≡ nodes_with trace old.nodes line

-- all lines were noted, to the last one of the part
pub record NotesAll (trace : Bool) (part : Part) (lines : List Line) (old new : Timeline) : Type 0 where
  pub rows : numbers_of new.rows.items ≡ numbers_of old.rows.items ++ rows_from trace part 1 lines
  pub nodes : new.nodes ≡ fold (nodes_with trace) old.nodes (take part.to lines)
