use Rattle.std.proofs.Common.{ℕ, List, [], Result, Ok, Err}
use Rattle.std.specs.Prelude.{IfOk}
use Rattle.ra_text.specs.declared.drawn_part.Part.{Part}
use Rattle.ra_trace.specs.declared.line.Line.{Line}
use Rattle.ra_draw.specs.Pictures.{AreLines, IsElement, IsPicture, nodes_of, rows_group, rows_of}
use Rattle.ra_draw.proofs.svg.picture_of.Goals as goal

picture : {V E : Type 0} (items : V → List ℕ) (part : Part) (text : List ℕ) (lines : List Line) (result : Result V E) → AreLines lines text
    → IfOk result (λ v. IsElement (rows_group (nodes_of part lines) (rows_of part lines)) (items v)) → IfOk result (λ v. IsPicture part text (items v))
picture items part text lines (Ok v) are element = record { lines = lines; are = are; element = element }
picture items part text lines (Err e) are element = tt

pub returns : goal.returns
returns c =
    let (lines, are) = c.requires in
    let group = rows_group (nodes_of c.args.part lines) (rows_of c.args.part lines) in
    picture (λ v. v.items) c.args.part c.args.text.now lines c.element_of.result are
    (c.element_of.ensures group ((c.draw_part.ensures lines are).says [] c.new-numbers.ensures))
