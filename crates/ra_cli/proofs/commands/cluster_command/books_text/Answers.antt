use Rattle.std.proofs.Common.{◌∷◌, [], ◌++◌, List, ap, ◌∙◌, string_bytes, subst, sym, take}
use Rattle.std.proofs.lemmas.List.{take_all, take_more}
use Rattle.ra_book.specs.Book.{BookState}
use Rattle.ra_cli.specs.ClusterRun.{AreWrittenBooks}
use Rattle.ra_cli.proofs.BookTexts.{one_more}
use Rattle.ra_cli.proofs.commands.cluster_command.books_text.Goals as goal

pub loop-book-preserved : goal.loop-book-preserved
loop-book-preserved c =
    let books = c.args.books.now in
    let i = c.loop-book.book-index in
    let book = c.book-item.result in
    let new = string_bytes c.push_book.new.text in
    let more = take_more books i book c.loop-book-test.true ∙ ap (λ (b : BookState). take i books ++ b ∷ []) (sym c.book-item.is) in
    subst (λ (bs : List BookState). AreWrittenBooks bs new) (sym more)
    (one_more (string_bytes c.loop-book.text) new (take i books) book c.loop-book.invariant c.in-Ok.ensures.ok)

pub returns : goal.returns
returns c =
    let books = c.args.books.now in
    subst (λ (bs : List BookState). AreWrittenBooks bs (string_bytes c.loop-book.text)) (take_all c.loop-book.book-index books c.loop-book-test.false) c.loop-book.invariant
