use Rattle.std.proofs.Common.{◌≡◌, ◌++◌, ◌+◌, All, flat_map, take, take_all, ap, ◌∙◌, subst, append_assoc, arith}
use Rattle.std.proofs.lemmas.Grind.{common_steps}
use Rattle.std.proofs.lemmas.List.Elements.{All-nil, All-more}
use Rattle.ra_text.specs.Lines.{mark_line}
use Rattle.ra_text.proofs.Drafts.{adds_as, adds_both}
use Rattle.ra_trace.proofs.Traced.{adds_nothing}
use Rattle.ra_trace.specs.Ranges.{MarkFits}
use Rattle.ra_trace.proofs.trace_writing.push_marks.Goals as goal

pub loop-mark-init : goal.loop-mark-init
loop-mark-init c = record {
  adds = adds_nothing;
  fit = All-nil MarkFits;
}

pub loop-mark-preserved : goal.loop-mark-preserved
loop-mark-preserved c =
    let items = c.as_slice-mark-items.result.now in
    let i = c.loop-mark.mark-index in
    let more : flat_map mark_line (take i items) ++ mark_line c.mark-item.result ≡ flat_map mark_line (take (i + 1) items) =
    grind (arith, common_steps, append_assoc) in
    record {
      adds = adds_as (adds_both c.loop-mark.invariant.adds c.push_mark_line.ensures) more;
      fit = All-more MarkFits items i c.mark-item.result c.loop-mark-test.true c.loop-mark.invariant.fit (subst MarkFits c.mark-item.is c.mark_fits.ensures);
    }

pub returns-clause-text : goal.returns-clause-text
returns-clause-text c =
    let all = take_all c.loop-mark.mark-index c.as_slice-mark-items.result.now c.loop-mark-test.false ∙ c.as_slice-mark-items.ensures in
    adds_as c.loop-mark.invariant.adds (ap (flat_map mark_line) all)

pub returns-clause-fit : goal.returns-clause-fit
returns-clause-fit c =
    let all = take_all c.loop-mark.mark-index c.as_slice-mark-items.result.now c.loop-mark-test.false ∙ c.as_slice-mark-items.ensures in
    subst (All MarkFits) all c.loop-mark.invariant.fit
