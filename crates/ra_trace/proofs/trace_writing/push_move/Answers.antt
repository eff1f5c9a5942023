use Rattle.std.proofs.Common.{All, flat_map, sym, ◌∙◌}
use Rattle.std.proofs.lemmas.Bool.{false≢true}
use Rattle.ra_text.specs.Drafting.{Adds}
use Rattle.ra_text.proofs.Drafts.{adds_as, adds_to, adds_both}
use Rattle.ra_trace.specs.Version.{TellsSends}
use Rattle.ra_trace.specs.Ranges.{MessageFits}
use Rattle.ra_trace.specs.TraceText.{line_text, sent_lines}
use Rattle.ra_trace.proofs.Traced.{adds_nothing, told_lines, untold_lines}
use Rattle.ra_trace.proofs.trace_writing.push_move.Goals as goal
use Rattle.ra_trace.proofs.trace_writing.push_move.Goals.{then-has_sends, else-has_sends}

pub returns : goal.returns
returns c =
    let version = c.args.version in
    let sends = c.args.sends.now.items in
    let told : Adds c.push_step.new.text (flat_map line_text (sent_lines version sends)) c.if-has_sends.text × (TellsSends version → All MessageFits sends) =
    elim c.if-has_sends.branch [
      | then-has_sends w ↦
          (adds_to w.text-is (adds_as w.push_sends.ensures.text (sym (told_lines version sends (sym c.has_sends.ensures ∙ w.if-has_sends.true)))), λ _. w.push_sends.ensures.fit)
      | else-has_sends w ↦
          let untold = sym c.has_sends.ensures ∙ w.if-has_sends.false in
          (adds_to w.text-is (adds_as adds_nothing (sym (untold_lines version sends untold))), λ tells. absurd (false≢true (sym untold ∙ tells)))
    ] in
    record {
      text = adds_both (adds_both c.push_step.ensures told.0) c.push_marks.ensures.text;
      fit = (c.step_fits.ensures, c.push_marks.ensures.fit, told.1);
    }
