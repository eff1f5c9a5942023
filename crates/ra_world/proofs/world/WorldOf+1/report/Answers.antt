use Rattle.std.proofs.Common.{List, ◌++◌, length, arith, refl, sym, ap, ◌∙◌, subst}
use Rattle.ra_stamp.specs.declared.entry.Mark.{Mark}
use Rattle.ra_world.specs.Run.{marks_of}
use Rattle.ra_world.specs.World.{WorldState, Reports}
use Rattle.ra_world.proofs.WorldLaws.{reports_meet_the_main_theorem}
use Rattle.ra_world.proofs.world.WorldOf+1.report.Goals as goal

pub returns-clause-ok : goal.returns-clause-ok
returns-clause-ok c =
    let s = c.args.self.now in
    let copied = c.append.ensures ∙ ap (λ (marks : List Mark). marks ++ c.as_slice.result.now) (c.in_ok-reserve.ensures.same ∙ c.new-marks.ensures) ∙ c.as_slice.ensures in
    let kept = copied ∙ c.marks-kept.ensures refl ∙ ap (λ (w : WorldState). marks_of w.moves) c.self.view_is in
    subst (Reports s.count s.start s.moves) (sym c.with_marks.ensures) (c.figures-figures.ensures.figures c.append.new.list kept)

pub returns-clause-main_theorem : goal.returns-clause-main_theorem
returns-clause-main_theorem c =
    let s = c.args.self.now in
    reports_meet_the_main_theorem s.count s.start s.moves c.with_marks.result c.figures-figures.ensures.count c.figures-figures.ensures.run (returns-clause-ok c)

pub append-requires : goal.append-requires
append-requires c = omega (arith, c.in_ok-reserve.ensures.ok, c.len.ensures, ap length c.as_slice.ensures)
