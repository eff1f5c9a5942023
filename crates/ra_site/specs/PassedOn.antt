-- How a site passes on what its desk answered.
use Rattle.std.specs.Prelude.{Result, IsOk, IsErrOf}
use Rattle.ra_book.specs.declared.error.BookError.{BookError}
use Rattle.ra_book.specs.declared.error.BookError.TheVariants.{Memory}
use Rattle.ra_site.specs.declared.site.SiteError.{SiteError}
use Rattle.ra_site.specs.declared.site.SiteError.TheVariants.{Refused, Cancelled}

-- the call is not answered `Cancelled`; only a call that waits is
abbrev pub IsNotCancelled : {T : Type 0} → Result T SiteError → Type 0
IsNotCancelled answer = IsErrOf answer Cancelled → ⊥

-- how a call that ends a request is answered: it is never refused for lack of memory, and not answered `Cancelled`
pub record AnswersEnding {T : Type 0} (answer : Result T SiteError) : Type 0 where
  pub no_memory : IsErrOf answer (Refused Memory) → ⊥
  pub others : IsNotCancelled answer

-- The answer is Ok only if the call was made, refused by the book only if the call was, for the same cause, and
-- `Cancelled` only if the call was refused so.
pub record PassesOn {T U : Type 0} (made : Result T SiteError) (answer : Result U SiteError) : Type 0 where
  pub ok : IsOk answer → IsOk made
  pub refused : (why : BookError) → IsErrOf answer (Refused why) → IsErrOf made (Refused why)
  pub cancelled : IsErrOf answer Cancelled → IsErrOf made Cancelled
