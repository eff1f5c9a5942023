use Rattle.std.proofs.Common.{refl, sym, ◌∙◌, arith}
use Rattle.std.proofs.lemmas.Bool.{false≢true}
use Rattle.ra_book.proofs.FrameSearch.{none_kept_below, none_kept_more, kept_here, none_kept_after, none_kept}
use Rattle.ra_book.proofs.Truth.{yes, no}
use Rattle.ra_book.proofs.book.frame_search.is_kept.Goals as goal

pub loop-place-init : goal.loop-place-init
loop-place-init c = none_kept_below c.args.sent.now c.args.frame.now c.place_before-place.result (c.place_before-place.ensures c.requires refl)

pub loop-place-preserved : goal.loop-place-preserved
loop-place-preserved c =
    none_kept_more c.args.sent.now c.args.frame.now c.loop-place.place c.index-sent-place.result c.loop-place-test.true c.index-sent-place.is c.loop-place.invariant
    (λ same. false≢true (sym c.if-is_kept_of-2.false ∙ c.is_kept_of-in-loop-place.ensures.1 same))

pub returns-then-is_kept_of : goal.returns-then-is_kept_of
returns-then-is_kept_of c =
    yes (kept_here c.args.sent.now c.args.frame.now c.place_before.result c.in-Some.likely.now c.in-Some.ensures.lookup.3.0 c.in-Some.ensures.lookup.1
    (c.is_kept_of.ensures.0 c.if-is_kept_of.true))

pub returns-then-is_kept_of-2 : goal.returns-then-is_kept_of-2
returns-then-is_kept_of-2 c =
    yes (kept_here c.args.sent.now c.args.frame.now c.loop-place.place c.index-sent-place.result c.loop-place-test.true c.index-sent-place.is
    (c.is_kept_of-in-loop-place.ensures.0 c.if-is_kept_of-2.true))

pub returns-then-frame-other : goal.returns-then-frame-other
returns-then-frame-other c =
    no (none_kept_after c.args.sent.now c.args.frame.now c.loop-place.place c.index-sent-place.result c.loop-place-test.true c.index-sent-place.is c.loop-place.invariant c.requires
    (omega arith))

pub returns : goal.returns
returns c = no (none_kept c.args.sent.now c.args.frame.now c.loop-place.place c.loop-place-test.false c.loop-place.invariant)
