use Rattle.std.proofs.Common.{◌≡◌, true, [], ◌∷◌, ◌++◌, arith}
use Rattle.ra_book_text.proofs.BookTexts.{no_beginning, nothing, one_more}
use Rattle.ra_book_text.proofs.Lines.{begun}
use Rattle.ra_book_text.proofs.Outcome.{lacks_memory, unread_by}
use Rattle.ra_book_text.proofs.text_settling.read_books.read_books.Goals as goal

-- the first line does not begin a book
pub returns-in_default-parse : goal.returns-in_default-parse
returns-in_default-parse c =
    let text = c.args.text.now in
    let line = c.cut.result.0.now in
    let rest = c.in-Some.rest.now in
    let is : text ≡ line ++ 10 ∷ rest = rw c.in-Some.is at c.cut.ensures.cut in
    no_beginning text line rest (one_more text [] text line rest (nothing text) is c.cut.ensures.before) c.in_default-parse.ensures

-- there is no room for the first book
pub returns-in_err-earlier : goal.returns-in_err-earlier
returns-in_err-earlier c = lacks_memory _ c.args.text.now c.from_residual.result c.from_residual.ensures.1

pub returns : goal.returns
returns c =
    let text = c.args.text.now in
    let line = c.cut.result.0.now in
    let rest = c.in-Some.rest.now in
    let first = c.in-Some-parse.first in
    let is : text ≡ line ++ 10 ∷ rest = rw c.in-Some.is at c.cut.ensures.cut in
    c.in_ok-next.ensures text line (one_more text [] text line rest (nothing text) is c.cut.ensures.before)
    (begun (record { earlier = c.in_ok-earlier.earlier; last = c.of-last.result; version = first.version; came = c.new.result }) line first.member.node first.member.nodes first.start
    c.in-Some-parse.ensures c.in_ok-earlier.ensures.items c.of-last.ensures.value c.new.ensures c.of-last.ensures.history
    (omega (arith, c.in_ok-earlier.ensures.len, c.in_ok-earlier.ensures.exact)))

pub returns-in_err-next : goal.returns-in_err-next
returns-in_err-next c =
    let passed = c.from_residual-in_err-next in
    let text = c.args.text.now in
    let line = c.cut.result.0.now in
    let rest = c.in-Some.rest.now in
    let first = c.in-Some-parse.first in
    let is : text ≡ line ++ 10 ∷ rest = rw c.in-Some.is at c.cut.ensures.cut in
    unread_by _ true text c.in_err-next.field-0.0
    (c.in_err-next.ensures text line (one_more text [] text line rest (nothing text) is c.cut.ensures.before)
    (begun (record { earlier = c.in_ok-earlier.earlier; last = c.of-last.result; version = first.version; came = c.new.result }) line first.member.node first.member.nodes first.start
    c.in-Some-parse.ensures c.in_ok-earlier.ensures.items c.of-last.ensures.value c.new.ensures c.of-last.ensures.history
    (omega (arith, c.in_ok-earlier.ensures.len, c.in_ok-earlier.ensures.exact))))
    passed.result passed.ensures.1
