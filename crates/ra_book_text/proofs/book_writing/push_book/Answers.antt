use Rattle.std.proofs.Common.{◌++◌, List, ℕ, ap, string_bytes, ◌∙◌}
use Rattle.ra_book_text.proofs.book_writing.push_book.Goals as goal

pub returns-clause-ok : goal.returns-clause-ok
returns-clause-ok c =
    let old = string_bytes c.args.text.now in
    let written = c.in_ok-written.ensures.ok in
    (written.0, written.1, c.in_ok-push_str.ensures.bytes ∙ ap (λ (t : List ℕ). old ++ t) (c.as_str.ensures.value ∙ written.2))
