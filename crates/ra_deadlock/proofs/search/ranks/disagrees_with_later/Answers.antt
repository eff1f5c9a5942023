use Rattle.std.proofs.Common.{rules, ◌≡◌, ℕ, sym, ◌∙◌, arith}
use Rattle.ra_deadlock.proofs.Order.{queued_agrees, others_agree, one_more_agrees}
use Rattle.ra_deadlock.proofs.search.ranks.disagrees_with_later.Goals as goal

pub returns-then-is_queued : goal.returns-then-is_queued
returns-then-is_queued c is =
    queued_agrees c.args.ranked.now c.requires.sorted c.args.place c.index-ranked-place.result c.requires.within c.index-ranked-place.is (sym c.is_queued-is_queued.ensures ∙ c.if-is_queued.true)

pub returns-then-is_other : goal.returns-then-is_other
returns-then-is_other c is =
    others_agree c.args.ranked.now c.requires.sorted c.args.place c.loop-later.later c.index-ranked-place.result c.index-ranked-later.result (omega (arith, c.loop-later.auto.later)) c.loop-later-test.true
    c.index-ranked-place.is c.index-ranked-later.is (c.is_on_other_name-is_other.ensures c.if-is_other.true) c.loop-later.invariant

pub loop-later-preserved : goal.loop-later-preserved
loop-later-preserved c =
    one_more_agrees c.args.ranked.now c.args.place c.loop-later.later c.index-ranked-place.result c.index-ranked-later.result (omega (arith, c.loop-later.auto.later)) c.loop-later-test.true
    c.index-ranked-place.is c.index-ranked-later.is (c.disagrees_with-is_wrong.ensures c.if-is_wrong.false) c.loop-later.invariant
