use Rattle.std.proofs.Common.{◌<◌, length, arith, ap, subst}
use Rattle.std.specs.Prelude.{is_some}
use Rattle.std.proofs.lemmas.List.Elements.{AllWithin-more, AllWithin-upto, All-from_all_within, at_read}
use Rattle.ra_audit.specs.Audit.{IsReady, MayBePut}
use Rattle.ra_audit.proofs.UnsentFrames.{may_be_put, is_unsent}
use Rattle.ra_audit.proofs.auditor.never_sent.first_unsent.Goals as goal

pub unsent_of-requires : goal.unsent_of-requires
unsent_of-requires c =
    let nodes = c.args.nodes.now in
    let place = c.loop-place.place in
    let x = c.index-nodes-place.result in
    record {
      numbers = c.requires.numbers;
      not_ready = λ ready. c.requires.none_ready place x c.loop-place-test.true (subst (IsReady nodes) c.index-nodes-place.is ready);
    }

pub loop-place-preserved : goal.loop-place-preserved
loop-place-preserved c =
    let nodes = c.args.nodes.now in
    let clocks = c.args.clocks.now in
    let place = c.loop-place.place in
    let x = c.index-nodes-place.result in
    let low : place < length nodes = c.loop-place-test.true in
    AllWithin-more (MayBePut clocks nodes) nodes 0 place c.loop-place.invariant
    (at_read nodes (MayBePut clocks nodes) place x low c.index-nodes-place.is
    (may_be_put clocks nodes c.requires.numbers.0 place c.clock_at.result x c.requires.numbers.1 low c.index-nodes-place.is c.clock_at.ensures (c.unsent_of.ensures.may (ap is_some c.in_default.is))))

pub returns-in-Some : goal.returns-in-Some
returns-in-Some c =
    let place = c.loop-place.place in
    let x = c.index-nodes-place.result in
    is_unsent c.args.clocks.now c.args.nodes.now c.requires.numbers.0 place c.clock_at.result x c.requires.numbers.1 c.loop-place-test.true c.index-nodes-place.is c.clock_at.ensures
    c.in-Some.fault c.in-Some.ensures.unsent.0 c.in-Some.ensures.unsent.1 c.in-Some.ensures.unsent.2

pub returns : goal.returns
returns c =
    let nodes = c.args.nodes.now in
    let clocks = c.args.clocks.now in
    All-from_all_within (MayBePut clocks nodes) nodes
    (AllWithin-upto (MayBePut clocks nodes) nodes 0 c.loop-place.place (length nodes) (omega (arith, c.loop-place-test.false)) c.loop-place.invariant)
