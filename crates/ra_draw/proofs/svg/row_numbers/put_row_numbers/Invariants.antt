use Rattle.std.proofs.Common.{◌≡◌, ℕ, ◌+◌, List, ◌++◌, codes, drop}
use Rattle.ra_draw.specs.Following.{numbers_of}
use Rattle.ra_draw.specs.Pictures.{rows_text}
use Rattle.ra_draw.specs.Writing.{Adds}
use Rattle.ra_draw.proofs.svg.row_numbers.put_row_numbers.Given as goal

-- what was added and what is left to add are all numbers
abbrev pub invariant-loop-place : goal.invariant-loop-place
invariant-loop-place l =
    (part : List ℕ) × Adds l.fn.svg part l.svg
    × (part ++ rows_text l.layout.nodes (l.place + 1) (numbers_of (drop l.place l.rows))
    ≡ codes "<g class=\"rows\">\n" ++ rows_text l.layout.nodes 1 (numbers_of l.rows))
