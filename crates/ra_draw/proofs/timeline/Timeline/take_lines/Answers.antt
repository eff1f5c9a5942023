use Rattle.std.proofs.Common.{◌≡◌, ◌+◌, ◌≤◌, ◌∷◌, ◌++◌, Result, Ok, Err, refl, sym, ap, ◌∙◌, arith}
use Rattle.std.specs.Prelude.{is_some, nat_le, OnOk}
use Rattle.std.proofs.lemmas.Option.{same_Some}
use Rattle.ra_draw.specs.Following.{IsSamePage, NotesAll, numbers_of}
use Rattle.ra_draw.proofs.LinesLeft.{at_end, at_last, drawn_is, noted_as, one_more}
use Rattle.ra_draw.proofs.timeline.Timeline.take_lines.Goals.{in-Some-parse+in-Ok, in_default-parse, else-loop-before-test, then-loop-before-test+in_default, then-is_some, else-is_some}
use Rattle.ra_draw.proofs.timeline.Timeline.take_lines.Goals as goal

on_ok : {V E P : Type 0} (r : Result V E) → P → OnOk r P
on_ok (Ok v) p = p
on_ok (Err e) p = tt

pub loop-before-preserved : goal.loop-before-preserved
loop-before-preserved c =
    let rest = c.loop-before.rest.now in
    let bytes = c.cut.result.0.now in
    let after = c.in-Some.after.now in
    let cuts : rest ≡ bytes ++ 10 ∷ after = rw c.in-Some.is at c.cut.ensures.cut in
    let trace = is_some c.args.world.now in
    let within : c.loop-before.before + 1 ≤ c.args.part.to = omega (arith, c.loop-before-test.true) in
    let drawn = drawn_is c.args.part (c.loop-before.before + 1) within in
    let same = c.loop-before.invariant.world in
    elim c.match-parse.branch [
      | in-Some-parse+in-Ok w ↦ record {
        world = ap is_some w.world-is ∙ (w.take.ensures.world ∙ same);
        lines = λ lines are.
            let (left, h) = c.loop-before.invariant.lines lines are in
            one_more trace c.args.part lines c.args.self.now c.loop-before.before c.loop-before.self c.match-parse.self left rest bytes after c.parse.result
            (nat_le c.args.part.from (c.loop-before.before + 1)) c.loop-before-test.true drawn c.cut.ensures.before cuts c.parse.ensures.line c.parse.ensures.none
            (λ line is.
            noted_as same (same_Some w.in-Some-parse.line line (sym w.in-Some-parse.is ∙ is)) w.self-is w.in-Ok.ensures.notes) h;
      }
      | in_default-parse w ↦ record {
        world = ap is_some w.world-is ∙ same;
        lines = λ lines are.
            let (left, h) = c.loop-before.invariant.lines lines are in
            one_more trace c.args.part lines c.args.self.now c.loop-before.before c.loop-before.self c.match-parse.self left rest bytes after c.parse.result
            (nat_le c.args.part.from (c.loop-before.before + 1)) c.loop-before-test.true drawn c.cut.ensures.before cuts c.parse.ensures.line c.parse.ensures.none
            (λ line is. absurd (w.in_default-parse.not-Some line is)) h;
      }
    ]

pub returns : goal.returns
returns c = λ lines are.
    let (left, h) = c.loop-before.invariant.lines lines are in
    let trace = is_some c.args.world.now in
    let all : NotesAll trace c.args.part lines c.args.self.now c.loop-before.self =
    elim c.loop-before-test.branch [
      | else-loop-before-test w ↦
          at_last trace c.args.part lines c.args.self.now c.loop-before.before c.loop-before.self left c.loop-before.rest.now w.loop-before-test.false h
      | then-loop-before-test+in_default w ↦
          let whole : c.loop-before.rest.now ≡ w.cut.result.0.now = rw w.in_default.is at w.cut.ensures.whole in
          at_end trace c.args.part lines c.args.self.now c.loop-before.before c.loop-before.self left c.loop-before.rest.now (rw whole w.cut.ensures.before) h
    ] in
    let same : IsSamePage c.loop-before.self c.if-is_some.self =
    elim c.if-is_some.branch [
      | then-is_some w ↦ rw w.self-is w.take_last_marks.ensures
      | else-is_some w ↦ rw w.self-is (record { rows = refl; nodes = refl })
    ] in
    on_ok c.close.result (record { rows = ap numbers_of same.rows ∙ all.rows; nodes = same.nodes ∙ all.nodes })
