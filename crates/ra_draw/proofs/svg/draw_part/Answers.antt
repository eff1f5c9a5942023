use Rattle.std.proofs.Common.{◌≡◌, ℕ, List, ◌++◌, ap, take, ◌∙◌}
use Rattle.std.specs.Prelude.{fold}
use Rattle.ra_draw.specs.declared.timeline.Row.{Row}
use Rattle.ra_draw.specs.Following.{numbers_of}
use Rattle.ra_draw.specs.Pictures.{is_trace, nodes_of, nodes_with, rows_group, rows_of}
use Rattle.ra_draw.proofs.Additions.{adds_as}
use Rattle.ra_draw.proofs.svg.draw_part.Goals as goal

-- the rows and the nodes are the part's
pub returns-in-Ok : goal.returns-in-Ok
returns-in-Ok c = λ lines are.
    let noted = c.in-Ok.ensures lines are in
    let part = c.args.part in
    let numbers = numbers_of c.follow.new.self.rows.items in
    let rows : numbers ≡ rows_of part lines =
    noted.rows ∙ ap (λ (before : List Row). numbers_of before ++ rows_of part lines) c.new-timeline.ensures.rows in
    let nodes : c.follow.new.self.nodes ≡ nodes_of part lines =
    noted.nodes ∙ ap (λ (n : ℕ). fold (nodes_with (is_trace lines)) n (take part.to lines)) c.new-timeline.ensures.nodes in
    adds_as c.draw_timeline.ensures (ap (λ (n : ℕ). rows_group n numbers) nodes ∙ ap (rows_group (nodes_of part lines)) rows)
