use Rattle.std.proofs.Common.{refl, sym, ◌∙◌, arith}
use Rattle.std.proofs.lemmas.Bool.{false≢true}
use Rattle.ra_book.proofs.FrameSearch.{none_below, none_more, first_here, none_after, none_at_all}
use Rattle.ra_book.proofs.book.frame_search.place_of.Goals as goal

pub loop-place-init : goal.loop-place-init
loop-place-init c = none_below c.args.sent.now c.args.frame.now c.place_before-place.result (c.place_before-place.ensures c.requires refl)

pub loop-place-preserved : goal.loop-place-preserved
loop-place-preserved c =
    none_more c.args.sent.now c.args.frame.now c.loop-place.place c.index-sent-place.result c.loop-place-test.true c.index-sent-place.is c.loop-place.invariant
    (λ same. false≢true (sym c.if-is_of.false ∙ c.is_of.ensures.1 same))

pub returns-then-is_of : goal.returns-then-is_of
returns-then-is_of c =
    first_here c.args.sent.now c.args.frame.now c.loop-place.place c.index-sent-place.result c.loop-place-test.true c.index-sent-place.is c.loop-place.invariant
    (c.is_of.ensures.0 c.if-is_of.true)

pub returns-then-frame-other : goal.returns-then-frame-other
returns-then-frame-other c =
    none_after c.args.sent.now c.args.frame.now c.loop-place.place c.index-sent-place.result c.loop-place-test.true c.index-sent-place.is c.loop-place.invariant c.requires
    (omega arith)

pub returns : goal.returns
returns c = none_at_all c.args.sent.now c.args.frame.now c.loop-place.place c.loop-place-test.false c.loop-place.invariant
