use Rattle.std.proofs.Common.{Bool, subst, sym}
use Rattle.std.specs.Prelude.{MatchResult}
use Rattle.ra_book_text.specs.Gathering.{IsRefusedBy}
use Rattle.ra_book_text.specs.Verdicts.{IsRunBy}
use Rattle.ra_book_text.proofs.Settlements.{lossless, by_copies, by_plain}
use Rattle.ra_book_text.proofs.text_settling.settle_by.Goals as goal

pub settle_with_copies-requires-clause-lossless : goal.settle_with_copies-requires-clause-lossless
settle_with_copies-requires-clause-lossless c = lossless c.args.books.now c.requires.each

pub returns-then-repeats : goal.returns-then-repeats
returns-then-repeats c =
    let books = c.args.books.now in
    let settled = c.settle_with_copies.ensures in
    subst (λ (b : Bool). MatchResult c.settle_with_copies.result (IsRunBy b books) (IsRefusedBy b books)) (sym c.if-repeats.true)
    (by_copies books c.settle_with_copies.result settled.settled_run settled.main_theorem settled.not_sent settled.settles)

pub returns-else-repeats : goal.returns-else-repeats
returns-else-repeats c =
    let books = c.args.books.now in
    let settled = c.settle.ensures in
    subst (λ (b : Bool). MatchResult c.settle.result (IsRunBy b books) (IsRefusedBy b books)) (sym c.if-repeats.false)
    (by_plain books c.settle.result settled.settled_run settled.main_theorem settled.steps settled.fit settled.not_sent settled.found_unsent)
