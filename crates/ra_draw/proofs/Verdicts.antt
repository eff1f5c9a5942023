-- What is valid is made of lines.
use Rattle.std.proofs.Common.{◌≡◌, ℕ, List, [], ◌∷◌, ◌++◌, All, flat_map, map, refl, ap, ◌∙◌}
use Rattle.std.specs.List.{AllByRecursion}
use Rattle.std.proofs.lemmas.List.Elements.{All-head, All-tail}
use Rattle.ra_stamp.specs.declared.entry.Mark.{Mark}
use Rattle.ra_text.specs.Lines.{mark_line}
use Rattle.ra_trace.specs.declared.checker.verdict.Verdict.TheVariants.{Valid}
use Rattle.ra_trace.specs.declared.line.Line.{Line}
use Rattle.ra_trace.specs.declared.line.Line.TheVariants.{Marked}
use Rattle.ra_trace.specs.declared.line.version.Version.{Version}
use Rattle.ra_trace.specs.declared.line.version.Version.TheVariants.{Three}
use Rattle.ra_trace.specs.declared.mark_log.marks_verdict.MarksVerdict.TheVariants as log
use Rattle.ra_trace.specs.Forms.{IsReadable}
use Rattle.ra_trace.specs.Marks.{IsMarksVerdict, marks_text}
use Rattle.ra_trace.specs.TraceText.{IsLine, IsMarkLine, line_text, trace_lines}
use Rattle.ra_trace.specs.Verdict.{IsVerdict}
use Rattle.ra_trace.proofs.Versions.{readable}
use Rattle.ra_draw.specs.Pictures.{HasLines}

all_readable : (version : Version) (lines : List Line) → All (IsLine version) lines → AllByRecursion IsReadable lines
all_readable version [] h = tt
all_readable version (line ∷ lines) h =
    (readable version line (All-head (IsLine version) line lines h), all_readable version lines (All-tail (IsLine version) line lines h))

-- a trace is
pub trace_has_lines : (text : List ℕ) (requests messages : ℕ) → IsVerdict text (Valid requests messages) → HasLines text
trace_has_lines text requests messages (version, n, start, moves, is, counted, sent) =
    (trace_lines version n start moves, record { readable = all_readable version (trace_lines version n start moves) is.lines; text_is = is.text_is })

marks_readable : (marks : List Mark) → All (IsMarkLine Three) marks → AllByRecursion IsReadable (map Marked marks)
marks_readable [] h = tt
marks_readable (mark ∷ marks) h = (All-head (IsMarkLine Three) mark marks h, marks_readable marks (All-tail (IsMarkLine Three) mark marks h))

lines_of_marks : (marks : List Mark) → marks_text marks ≡ flat_map line_text (map Marked marks)
lines_of_marks [] = refl
lines_of_marks (mark ∷ marks) = ap (λ (xs : List ℕ). mark_line mark ++ xs) (lines_of_marks marks)

-- and so is a mark log
pub log_has_lines : (text : List ℕ) (requests grants : ℕ) → IsMarksVerdict text (log.Valid requests grants) → HasLines text
log_has_lines text requests grants (marks, run, text_is, counted, granted) =
    (map Marked marks, record { readable = marks_readable marks run.lines; text_is = text_is ∙ lines_of_marks marks })
