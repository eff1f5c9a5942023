use Rattle.std.proofs.Common.{◌≡◌, ◌++◌, ◌+◌, All, flat_map, take, take_all, ap, ◌∙◌, subst, append_assoc, arith}
use Rattle.std.proofs.lemmas.Grind.{common_steps}
use Rattle.std.proofs.lemmas.List.Elements.{All-nil, All-more}
use Rattle.ra_trace.specs.TraceText.{send_line}
use Rattle.ra_text.proofs.Drafts.{adds_as, adds_both}
use Rattle.ra_trace.proofs.Traced.{adds_nothing}
use Rattle.ra_trace.specs.Ranges.{MessageFits}
use Rattle.ra_trace.proofs.trace_writing.push_sends.Goals as goal

pub loop-message-init : goal.loop-message-init
loop-message-init c = record {
  adds = adds_nothing;
  fit = All-nil MessageFits;
}

pub loop-message-preserved : goal.loop-message-preserved
loop-message-preserved c =
    let items = c.as_slice-message-items.result.now in
    let i = c.loop-message.message-index in
    let more : flat_map send_line (take i items) ++ send_line c.message-item.result ≡ flat_map send_line (take (i + 1) items) =
    grind (arith, common_steps, append_assoc) in
    record {
      adds = adds_as (adds_both c.loop-message.invariant.adds (adds_both c.push_sent.ensures c.end_line.ensures)) more;
      fit = All-more MessageFits items i c.message-item.result c.loop-message-test.true c.loop-message.invariant.fit (subst MessageFits c.message-item.is c.message_fits.ensures);
    }

pub returns-clause-text : goal.returns-clause-text
returns-clause-text c =
    let all = take_all c.loop-message.message-index c.as_slice-message-items.result.now c.loop-message-test.false ∙ c.as_slice-message-items.ensures in
    adds_as c.loop-message.invariant.adds (ap (flat_map send_line) all)

pub returns-clause-fit : goal.returns-clause-fit
returns-clause-fit c =
    let all = take_all c.loop-message.message-index c.as_slice-message-items.result.now c.loop-message-test.false ∙ c.as_slice-message-items.ensures in
    subst (All MessageFits) all c.loop-message.invariant.fit
