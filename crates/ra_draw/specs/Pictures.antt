-- What a picture of a part of a text says: which of its lines have a row on the page, and their numbers. The text is a
-- trace or a mark log. Its lines are counted from 1.
use Rattle.std.specs.Prelude.{◌≡◌, ℕ, ◌+◌, ◌-◌, ◌*◌, ◌/◌, max, Bool, true, false, not, ◌&&◌, nat_le, if◌then◌else◌, List, [], ◌∷◌, ◌++◌, codes, decimal, flat_map, fold, take}
use Rattle.std.specs.List.{AllByRecursion}
use Rattle.ra_stamp.specs.Mark.{entry_of_mark}
use Rattle.ra_text.specs.declared.drawn_part.Part.{Part}
use Rattle.ra_trace.specs.declared.line.Line.{Line}
use Rattle.ra_trace.specs.declared.line.Line.TheVariants.{First, Stepped, Sent, Marked, Last}
use Rattle.ra_trace.specs.Forms.{IsReadable}
use Rattle.ra_trace.specs.TraceText.{line_text}

-- the text is made of these lines, one after the other
pub record AreLines (lines : List Line) (text : List ℕ) : Type 0 where
  pub readable : AllByRecursion IsReadable lines
  pub text_is : text ≡ flat_map line_text lines

-- the text is made of such lines
abbrev pub HasLines : List ℕ → Type 0
HasLines text = (lines : List Line) × AreLines lines text

-- whether these are the lines of a trace, as the first one tells; otherwise they are a mark log's
abbrev pub is_trace : List Line → Bool
is_trace [] = false
is_trace (First version nodes start ∷ lines) = true
is_trace (Stepped step ∷ lines) = false
is_trace (Sent message ∷ lines) = false
is_trace (Marked mark ∷ lines) = false
is_trace (Last ∷ lines) = false

-- whether a line has a row if it is drawn: a step has one, and in a mark log a mark
abbrev pub has_row : (trace : Bool) → Line → Bool
has_row trace (First version nodes start) = false
has_row trace (Stepped step) = true
has_row trace (Sent message) = false
has_row trace (Marked mark) = not trace
has_row trace Last = false

-- whether the line with this number is in the part
abbrev pub is_in : Part → ℕ → Bool
is_in part number = nat_le part.from number && nat_le number part.to

-- the number of a line, if it has a row
abbrev pub row_at : (trace drawn : Bool) → ℕ → Line → List ℕ
row_at trace drawn number line = if drawn && has_row trace line then number ∷ [] else []

-- the numbers of those lines of the part that have a row, in order, if the first of these lines has this number
abbrev pub rows_from : (trace : Bool) → Part → ℕ → List Line → List ℕ
rows_from trace part number [] = []
rows_from trace part number (line ∷ lines) =
    row_at trace (is_in part number) number line ++ rows_from trace part (number + 1) lines

-- the numbers of those lines of the part that have a row, in order
abbrev pub rows_of : Part → List Line → List ℕ
rows_of part lines = rows_from (is_trace lines) part 1 lines

-- how many nodes there are after a line, if there were this many before it: the first line of a trace says it, and in a
-- mark log the node of each mark is one of them
abbrev pub nodes_with : (trace : Bool) → ℕ → Line → ℕ
nodes_with trace nodes (First version count start) = count
nodes_with trace nodes (Stepped step) = nodes
nodes_with trace nodes (Sent message) = nodes
nodes_with trace nodes (Marked mark) = if trace then nodes else max nodes (entry_of_mark mark).stamp.node
nodes_with trace nodes Last = nodes

-- how many nodes are drawn: all nodes of a trace, or the nodes of a log up to the highest one that is named in or
-- before the part, at least one
abbrev pub nodes_of : Part → List Line → ℕ
nodes_of part lines = fold (nodes_with (is_trace lines)) 1 (take part.to lines)

-- ---- The text

-- how far down the page a row is, the first one being 1: a row has 24 pixels if there are up to 12 nodes, and otherwise
-- 14; after each 40 rows there are 30 more, which name the nodes again
abbrev pub row_y : (nodes row : ℕ) → ℕ
row_y nodes row = row * (if nat_le nodes 12 then 24 else 14) + (row - 1) / 40 * 30 + 186

-- the number of a line, beside its row
abbrev pub row_text : (nodes row number : ℕ) → List ℕ
row_text nodes row number =
    codes "<text x=\"" ++ decimal 52 ++ codes "\" y=\"" ++ decimal (row_y nodes row + 4) ++ codes "\" class=\"row\">"
    ++ decimal number ++ codes "</text>\n"

-- the numbers of lines, each beside its row, if the first of them is on this row
abbrev pub rows_text : (nodes row : ℕ) → List ℕ → List ℕ
rows_text nodes row [] = []
rows_text nodes row (number ∷ numbers) = row_text nodes row number ++ rows_text nodes (row + 1) numbers

-- the last group of a picture, and all of it: these numbers of lines, each beside its row
abbrev pub rows_group : (nodes : ℕ) → List ℕ → List ℕ
rows_group nodes numbers = codes "<g class=\"rows\">\n" ++ rows_text nodes 1 numbers ++ codes "</g>\n"

-- The text is one element of SVG, and a line feed after it. The element ends with this group; what comes before it, the
-- shapes and their labels, is not said.
abbrev pub IsElement : (group text : List ℕ) → Type 0
IsElement group text = (inner : List ℕ)
    × (text ≡ codes "<svg xmlns=\"http://www.w3.org/2000/svg\"" ++ inner ++ group ++ codes "</svg>\n")

-- The text is a picture of this part of the input: it ends with the numbers of those lines of the part that have a row,
-- each beside its row.
pub record IsPicture (part : Part) (input text : List ℕ) : Type 0 where
  pub lines : List Line
  pub are : AreLines lines input
  pub element : IsElement (rows_group (nodes_of part lines) (rows_of part lines)) text
