use Rattle.std.proofs.Common.{◌≡◌, ℕ, List, Option, Some, Err, refl, ap}
use Rattle.std.proofs.lemmas.Result.{err_from_is_err_and}
use Rattle.ra_trace.specs.declared.mark_log.marks_verdict.MarksVerdict.{MarksVerdict}
use Rattle.ra_trace.specs.declared.mark_log.marks_verdict.MarksVerdict.TheVariants.{Valid, Invalid}
use Rattle.ra_trace.specs.Marks.{IsMarksVerdict, marks_text}
use Rattle.ra_draw.specs.Drawing.{DrawsMarks}
use Rattle.ra_text.specs.declared.drawn_part.Part.{Part}
use Rattle.ra_draw.proofs.DrawingLemmas.{unread, unjudged, undrawn, judged, too_long, appends_nothing}
use Rattle.ra_draw.proofs.Verdicts.{log_has_lines}
use Rattle.ra_draw.proofs.draw_log.draw_marks.Goals as goal

-- nothing is drawn of what is no mark log
nothing : (part : Part) (input : List ℕ) (contents : Option (List ℕ)) (verdict : MarksVerdict) → ((m n : ℕ) → verdict ≡ Valid m n → ⊥)
    → DrawsMarks part input contents contents verdict
nothing part input contents (Valid m n) not = absurd (not m n refl)
nothing part input contents (Invalid line why) not = appends_nothing contents

-- the text was not read
pub returns-in_err-text : goal.returns-in_err-text
returns-in_err-text g c =
    let p = err_from_is_err_and c.from_residual.result c.from_residual.ensures.1 in
    rw (p.1, p.2) (unread IsMarksVerdict Valid Invalid DrawsMarks c.args.part _ _ _ _ _ _ refl c.in_err-text.field-0.0 c.in_err-text.ensures.err)

-- it was not judged
pub returns-in_err-verdict : goal.returns-in_err-verdict
returns-in_err-verdict g c =
    let whole = c.in_ok-text.ensures.ok in
    let p = err_from_is_err_and c.from_residual-in_err-verdict.result c.from_residual-in_err-verdict.ensures.1 in
    rw (p.1, p.2) (unjudged IsMarksVerdict Valid Invalid DrawsMarks c.args.part _ _ _ _ _ _ _ whole refl c.in_err-verdict.field-0.0 (λ is.
    let (marks, rest, byte, has, full, rest_is) = c.in_err-verdict.ensures.limit (ap Err is) in
    too_long c.as_slice-input.result.now (marks_text marks) rest byte (Some c.check_marks_buffered.new.reader.now)
    (rw c.as_slice-input.ensures.value whole.at_most) full has.taken))

-- it is no mark log
pub returns-in_default : goal.returns-in_default
returns-in_default g c =
    judged IsMarksVerdict Valid Invalid DrawsMarks c.args.part _ _ _ _ _ _ c.in_ok-verdict.verdict c.in_ok-text.ensures.ok (rw c.as_slice-input.ensures.value at c.in_ok-verdict.ensures.ok)
    (nothing c.args.part c.in_ok-text.field-0.items (g.W.Write.contents c.args.writer.now) c.in_ok-verdict.verdict c.in_default.not-Valid) (λ line why is. refl)

-- it has lines
pub write_picture-requires : goal.write_picture-requires
write_picture-requires g c =
    let verdict = rw c.as_slice-input.ensures.value at c.in_ok-verdict.ensures.ok in
    rw c.as_slice-input.ensures.value (log_has_lines c.in_ok-text.field-0.items c.in-Valid.requests c.in-Valid.grants (rw c.in-Valid.is at verdict))

-- the picture was not written
pub returns-in_err-write_picture : goal.returns-in_err-write_picture
returns-in_err-write_picture g c =
    let verdict = rw c.as_slice-input.ensures.value at c.in_ok-verdict.ensures.ok in
    let p = err_from_is_err_and c.from_residual-in_err-write_picture.result c.from_residual-in_err-write_picture.ensures.1 in
    rw (p.1, p.2) (undrawn IsMarksVerdict Valid Invalid DrawsMarks c.args.part _ _ _ _ _ _ _ c.in_ok-text.ensures.ok c.in-Valid.requests c.in-Valid.grants
    (rw c.in-Valid.is at verdict) c.in_err-write_picture.field-0.0 (rw c.as_slice-input.ensures.value at c.in_err-write_picture.ensures.err))

-- it was written
pub returns : goal.returns
returns g c =
    let verdict = rw c.as_slice-input.ensures.value at c.in_ok-verdict.ensures.ok in
    judged IsMarksVerdict Valid Invalid DrawsMarks c.args.part _ _ _ _ _ _ (Valid c.in-Valid.requests c.in-Valid.grants) c.in_ok-text.ensures.ok
    (rw c.in-Valid.is at verdict) (rw c.as_slice-input.ensures.value at c.in_ok-write_picture.ensures.ok) (λ line why is. absurd cc)
