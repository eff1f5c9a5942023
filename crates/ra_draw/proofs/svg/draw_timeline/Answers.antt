use Rattle.std.proofs.Common.{ℕ, ap, ◌∙◌}
use Rattle.ra_draw.specs.Following.{numbers_of}
use Rattle.ra_draw.specs.Pictures.{rows_group}
use Rattle.ra_draw.proofs.Additions.{adds_as}
use Rattle.ra_draw.proofs.svg.draw_timeline.Goals as goal

pub returns-in-Ok : goal.returns-in-Ok
returns-in-Ok c =
    adds_as c.draw_layout.ensures (ap (λ (n : ℕ). rows_group n (numbers_of c.args.timeline.now.rows.items)) (c.fill.ensures ∙ c.new-layout.ensures))
