use Rattle.std.proofs.Common.{◌≡◌, ◌<◌, ℕ, ◌+◌, List, [], ◌∷◌, ◌++◌, drop, get_or, length, ap, sym, ◌∙◌, add-one, append_assoc}
use Rattle.std.proofs.Math.Seq.{drop-cons}
use Rattle.std.proofs.lemmas.List.{append-nil, drop_all}
use Rattle.ra_draw.specs.declared.timeline.Row.{Row}
use Rattle.ra_draw.specs.Following.{numbers_of}
use Rattle.ra_draw.specs.Pictures.{row_text, rows_text}
use Rattle.ra_draw.proofs.Additions.{adds_as, adds_both}
use Rattle.ra_draw.proofs.svg.row_numbers.put_row_numbers.Goals as goal

-- what is left begins with the number of this row
next : (nodes place : ℕ) (rows : List Row) (any : Row) → place < length rows
    → rows_text nodes (place + 1) (numbers_of (drop place rows))
    ≡ row_text nodes (place + 1) (get_or rows place any).line ++ rows_text nodes (place + 1 + 1) (numbers_of (drop (place + 1) rows))
next nodes place rows any within =
    let first : drop place rows ≡ get_or rows place any ∷ drop (place + 1) rows = rw add-one (drop-cons rows place any within) in
    ap (λ (others : List Row). rows_text nodes (place + 1) (numbers_of others)) first

-- the next number
pub loop-place-preserved : goal.loop-place-preserved
loop-place-preserved c =
    let (part, adds, rest) = c.loop-place.invariant in
    let row : c.in-Ok.row ≡ c.loop-place.place + 1 = c.in-Ok.ensures.1 in
    let nodes = c.args.layout.now.nodes in
    let any = c.index-rows-place.result in
    let line = (get_or c.args.rows.now c.loop-place.place any).line in
    let place = c.loop-place.place in
    let left = rows_text nodes (place + 1 + 1) (numbers_of (drop (place + 1) c.args.rows.now)) in (
      part ++ row_text nodes (place + 1) line,
      adds_both adds (adds_as c.put_row_number.ensures (ap (λ (r : ℕ). row_text nodes r line) row)),
      append_assoc part (row_text nodes (place + 1) line) left
          ∙ (ap (λ (xs : List ℕ). part ++ xs) (sym (next nodes place c.args.rows.now any c.loop-place-test.true)) ∙ rest),
    )

pub returns : goal.returns
returns c =
    let (part, adds, rest) = c.loop-place.invariant in
    let nodes = c.args.layout.now.nodes in
    let none : drop c.loop-place.place c.args.rows.now ≡ [] = drop_all c.loop-place.place c.args.rows.now c.loop-place-test.false in
    let all = sym (append-nil part) ∙ (ap (λ (others : List Row). part ++ rows_text nodes (c.loop-place.place + 1) (numbers_of others)) (sym none) ∙ rest) in
    adds_both (adds_as adds all) c.put-2.ensures
