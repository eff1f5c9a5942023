use Rattle.std.proofs.Common.{◌≡◌, ℕ, ◌+◌, length, None, Some, refl, sym, ap, ◌∙◌, subst, arith}
use Rattle.ra_book.specs.declared.settle_books.event_merge.Head.{Head}
use Rattle.ra_book.specs.EventMerge.{IsHeadOfEarliest, taken_of}
use Rattle.ra_book.proofs.NextEvents.{head_with, head_without}
use Rattle.ra_book.proofs.settle_books.event_merge.first_head.Goals as goal
use Rattle.ra_book.proofs.settle_books.event_merge.first_head.Goals.{in-Some, in_default}

pub loop-place-init : goal.loop-place-init
loop-place-init c books are = (None, λ place event low is. omega (arith, low), refl)

pub loop-place-preserved : goal.loop-place-preserved
loop-place-preserved c books are =
    let nexts = c.args.nexts.now in
    let count = c.loop-place.place in
    let first = c.loop-place.first in
    let before = c.loop-place.invariant books are in
    elim c.match-next.branch [
      | in-Some w ↦
          subst (IsHeadOfEarliest books (taken_of nexts) (count + 1)) (sym (w.first-is ∙ ap (λ (h : Head). Some h) w.lesser_of.ensures))
          (head_with books nexts are count c.loop-place-test.true _ first w.in-Some.clock w.in-Some.is before)
      | in_default w ↦
          subst (IsHeadOfEarliest books (taken_of nexts) (count + 1)) (sym w.first-is)
          (head_without books nexts are count c.loop-place-test.true _ first w.in_default.not-Some before)
    ]

pub returns : goal.returns
returns c books are =
    let same : c.loop-place.place ≡ length books = omega (arith, are.long) in
    subst (λ (n : ℕ). IsHeadOfEarliest books (taken_of c.args.nexts.now) n c.loop-place.first) same (c.loop-place.invariant books are)
