-- A refusal of a book that a site passes on.
use Rattle.std.proofs.Common.{◌≡◌, Result, Ok, Err, sym, ap, ◌∙◌}
use Rattle.std.specs.Prelude.{IsErrOf, IsErrAnd}
use Rattle.ra_book.specs.declared.error.BookError.{BookError}
use Rattle.ra_site.specs.declared.site.SiteError.{SiteError}
use Rattle.ra_site.specs.declared.site.SiteError.TheVariants.{Refused, Cancelled}
use Rattle.ra_site.specs.PassedOn.{IsNotCancelled}

one_error : {X : Type 0} (x y : SiteError) → IsErrOf {T = X} (Err x) y → x ≡ y
one_error x y is = cc

-- it has the cause that the book had
pub same_cause : {X : Type 0} (e why : BookError) (r : Result X SiteError) → IsErrAnd r (λ x. x ≡ Refused e) → IsErrOf r (Refused why) → e ≡ why
same_cause e why (Ok v) passed is = absurd passed
same_cause {X} e why (Err x) passed is =
    let same : Refused e ≡ Refused why = sym passed ∙ one_error {X = X} x (Refused why) is in
    cc

-- it has no cause that the book never has
pub not_refused : {T X : Type 0} (e why : BookError) (r : Result X SiteError) → IsErrAnd r (λ x. x ≡ Refused e) → (IsErrOf {T = T} (Err e) why → ⊥) → IsErrOf r (Refused why) → ⊥
not_refused e why r passed never is = never (ap (λ (x : BookError). Err x) (same_cause e why r passed is))

-- nor is it `Cancelled`
pub not_cancelled : {X : Type 0} (e : BookError) (r : Result X SiteError) → IsErrAnd r (λ x. x ≡ Refused e) → IsNotCancelled r
not_cancelled e (Ok v) passed is = absurd passed
not_cancelled {X} e (Err x) passed is =
    let same : Refused e ≡ Cancelled = sym passed ∙ one_error {X = X} x Cancelled is in
    absurd cc
