use Rattle.std.proofs.Common.{List, [], None, length, subst}
use Rattle.ra_book.specs.declared.settle_books.event_merge.Next.{Next}
use Rattle.ra_book.specs.EventMerge.{IsEarliest, taken_of}
use Rattle.ra_book.proofs.Merging.{nothing_merged, turn_taken, all_merged}
use Rattle.ra_book.proofs.NextEvents.{nothing_taken, next_turn}
use Rattle.ra_book.proofs.Running.{not_ok}
use Rattle.ra_book.proofs.settle_books.event_merge.steps_in_order.Goals as goal

pub loop-turn-init : goal.loop-turn-init
loop-turn-init c =
    let books = c.args.books.now in
    let nexts = c.in_ok-nexts.nexts.items in
    let none = nothing_taken books nexts c.in_ok-nexts.ensures in
    ([], c.new-steps.ensures, nothing_merged books (taken_of nexts) none.1, none.0)

pub loop-turn-smaller : goal.loop-turn-smaller
loop-turn-smaller c =
    let books = c.args.books.now in
    let loop = c.loop-turn in
    let turn = c.in-Some.turn in
    let next = next_turn books loop.nexts c.deref_mut.result.now c.take_earliest.new.nexts turn loop.invariant.3 c.deref_mut.ensures.value c.in-Some.ensures.earliest c.in-Some.ensures.taken c.in-Some.ensures.next in
    (turn_taken books (taken_of loop.nexts.items) _ loop.invariant.0 turn c.index-books-turn.result c.me.result c.step_of.result loop.steps.items c.push.new.self.items c.requires loop.invariant.2 next.0 next.1
    c.index-books-turn.is c.me.ensures.history c.me.ensures.value c.step_of.ensures loop.invariant.1 c.in_ok-push.ensures.ok).1

pub loop-turn-preserved : goal.loop-turn-preserved
loop-turn-preserved c =
    let books = c.args.books.now in
    let loop = c.loop-turn in
    let turn = c.in-Some.turn in
    let next = next_turn books loop.nexts c.deref_mut.result.now c.take_earliest.new.nexts turn loop.invariant.3 c.deref_mut.ensures.value c.in-Some.ensures.earliest c.in-Some.ensures.taken c.in-Some.ensures.next in
    let more =
    turn_taken books (taken_of loop.nexts.items) _ loop.invariant.0 turn c.index-books-turn.result c.me.result c.step_of.result loop.steps.items c.push.new.self.items c.requires loop.invariant.2 next.0 next.1
    c.index-books-turn.is c.me.ensures.history c.me.ensures.value c.step_of.ensures loop.invariant.1 c.in_ok-push.ensures.ok
    in
    (more.0.0, more.0.1, more.0.2, next.2)

pub returns : goal.returns
returns c =
    let books = c.args.books.now in
    let none = subst (λ (ns : List Next). IsEarliest books (taken_of ns) (length books) None) c.deref_mut.ensures.value c.in_default.ensures.earliest in
    (c.loop-turn.invariant.0, all_merged books (taken_of c.loop-turn.nexts.items) c.loop-turn.invariant.0 c.requires c.loop-turn.invariant.2 none, c.loop-turn.invariant.1)

pub returns-in_err-nexts : goal.returns-in_err-nexts
returns-in_err-nexts c = not_ok _ _ c.from_residual.result c.from_residual.ensures.1

pub returns-in_err-push : goal.returns-in_err-push
returns-in_err-push c = not_ok _ _ c.from_residual-in_err-push.result c.from_residual-in_err-push.ensures.1
