use Rattle.std.proofs.Common.{◌<◌, length, sym, ◌∙◌, arith}
use Rattle.std.proofs.lemmas.Bool.{false≢true}
use Rattle.std.proofs.lemmas.List.Elements.{AllWithin-more, AllWithin-upto, at_read}
use Rattle.ra_audit.specs.Audit.{ProgressState, IsReady}
use Rattle.ra_audit.proofs.auditor.put_events.ready_from.Goals as goal

pub loop-place-preserved : goal.loop-place-preserved
loop-place-preserved c =
    let nodes = c.args.nodes.now in
    let place = c.loop-place.place in
    let x = c.index-nodes-place.result in
    let low : place < length nodes = omega (arith, c.loop-place-test.true) in
    AllWithin-more (λ (p : ProgressState). IsReady nodes p → ⊥) nodes c.args.start place c.loop-place.invariant
    (at_read nodes (λ (p : ProgressState). IsReady nodes p → ⊥) place x low c.index-nodes-place.is
    (λ ready. false≢true (sym c.if-is_ready.false ∙ c.is_ready.ensures.1 ready)))

pub returns : goal.returns
returns c =
    let nodes = c.args.nodes.now in
    AllWithin-upto (λ (p : ProgressState). IsReady nodes p → ⊥) nodes c.args.start c.loop-place.place (length nodes) (omega (arith, c.loop-place-test.false)) c.loop-place.invariant
