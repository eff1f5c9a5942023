-- The text of books, one after the other.
use Rattle.std.proofs.Common.{◌≡◌, ℕ, List, [], ◌∷◌, ◌++◌, sym, ap, ◌∙◌}
use Rattle.std.proofs.lemmas.List.{append-nil}
use Rattle.std.proofs.lemmas.List.Concat.{flat_map-append}
use Rattle.std.specs.List.{AllZip}
use Rattle.std.specs.Prelude.{flat_map}
use Rattle.ra_book.specs.Book.{BookState}
use Rattle.ra_book_text.specs.Book.{lines_text}
use Rattle.ra_book_text.specs.Written.{AddsLines, IsWrittenBook}
use Rattle.ra_cli.specs.ClusterRun.{AreWrittenBooks}

zip_push : (written : List (List (List ℕ))) (books : List BookState) (lines : List (List ℕ)) (book : BookState) → AllZip IsWrittenBook written books
    → IsWrittenBook lines book → AllZip IsWrittenBook (written ++ lines ∷ []) (books ++ book ∷ [])
zip_push [] [] lines book h one = (one, tt)
zip_push [] (b ∷ bs) lines book h one = absurd h
zip_push (w ∷ ws) [] lines book h one = absurd h
zip_push (w ∷ ws) (b ∷ bs) lines book h one = (h.0, zip_push ws bs lines book h.1 one)

text_push : (written : List (List (List ℕ))) (lines : List (List ℕ)) → flat_map lines_text (written ++ lines ∷ []) ≡ flat_map lines_text written ++ lines_text lines
text_push written lines =
    flat_map-append lines_text written (lines ∷ []) ∙ ap (λ (t : List ℕ). flat_map lines_text written ++ t) (append-nil (lines_text lines))

pub one_more : (at new : List ℕ) (books : List BookState) (book : BookState) → AreWrittenBooks books at
    → (lines : List (List ℕ)) × IsWrittenBook lines book × AddsLines at new lines → AreWrittenBooks (books ++ book ∷ []) new
one_more at new books book (written, are, is) (lines, one, then) = (
  written ++ lines ∷ [],
  zip_push written books lines book are one,
  then ∙ (ap (λ (t : List ℕ). t ++ lines_text lines) is ∙ sym (text_push written lines)),
)
