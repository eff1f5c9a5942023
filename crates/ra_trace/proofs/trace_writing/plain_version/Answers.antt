use Rattle.std.proofs.Common.{sym, ap, ◌∙◌}
use Rattle.std.proofs.lemmas.List.{drop_all}
use Rattle.ra_trace.specs.TraceText.{plain_version}
use Rattle.ra_trace.proofs.Traced.{third_later}
use Rattle.ra_trace.proofs.trace_writing.plain_version.Goals as goal

pub loop-step-preserved : goal.loop-step-preserved
loop-step-preserved c =
    third_later c.as_slice-step-items.result.now c.loop-step.step-index c.step-item.result c.loop-step-test.true c.step-item.is (sym c.needs_third.ensures ∙ c.if-needs_third.false)
    ∙ c.loop-step.invariant

pub returns : goal.returns
returns c =
    let is = sym c.loop-step.invariant ∙ ap plain_version (drop_all c.loop-step.step-index c.as_slice-step-items.result.now c.loop-step-test.false) in
    let plain = sym (ap plain_version (sym c.as_slice-step-items.ensures) ∙ is) in
    record { version = plain; can_write = sym plain }
