use Rattle.std.proofs.Common.{◌≡◌, ℕ, false, [], ◌∷◌, refl, sym, ◌∙◌}
use Rattle.ra_trace.specs.declared.line.Line.{Line}
use Rattle.ra_trace.specs.declared.line.Line.TheVariants.{First, Stepped, Sent, Marked, Last}
use Rattle.ra_trace.specs.declared.line.version.Version.{Version}
use Rattle.ra_draw.specs.Pictures.{is_trace}
use Rattle.ra_draw.proofs.FirstLines.{trace_told}
use Rattle.ra_draw.proofs.timeline.world_of.Goals as goal

no_trace : (line : Line) → ((version : Version) (nodes start : ℕ) → line ≡ First version nodes start → ⊥) → is_trace (line ∷ []) ≡ false
no_trace (First version nodes start) other = absurd (other version nodes start refl)
no_trace (Stepped step) other = refl
no_trace (Sent message) other = refl
no_trace (Marked mark) other = refl
no_trace Last other = refl

-- nothing was parsed
pub returns-in_default : goal.returns-in_default
returns-in_default c = λ lines are.
    let told = trace_told c.args.text.now c.cut.result.0.now c.cut.result.1 c.parse.result lines c.cut.ensures.before c.cut.ensures.cut
    c.cut.ensures.whole c.parse.ensures.line c.parse.ensures.none are in
    rw c.in_default.is at told

-- another line
pub returns-in_default-line : goal.returns-in_default-line
returns-in_default-line c = λ lines are.
    let told = trace_told c.args.text.now c.cut.result.0.now c.cut.result.1 c.parse.result lines c.cut.ensures.before c.cut.ensures.cut
    c.cut.ensures.whole c.parse.ensures.line c.parse.ensures.none are in
    let parsed = rw c.in-Some.is at told in
    sym (no_trace c.in-Some.line c.in_default-line.not-First) ∙ parsed

-- the first line of a trace
pub returns-in-Ok : goal.returns-in-Ok
returns-in-Ok c = λ lines are.
    let told = trace_told c.args.text.now c.cut.result.0.now c.cut.result.1 c.parse.result lines c.cut.ensures.before c.cut.ensures.cut
    c.cut.ensures.whole c.parse.ensures.line c.parse.ensures.none are in
    let parsed = rw c.in-Some.is at told in
    rw c.in-First.is at parsed
