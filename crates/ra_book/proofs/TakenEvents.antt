-- The clock of what was taken from a book.
use Rattle.std.proofs.Common.{◌≡◌, ℕ, List, [], ◌∷◌, ◌++◌, sym, ap, ◌∙◌}
use Rattle.std.specs.List.{flat_map}
use Rattle.std.proofs.lemmas.List.{append-nil}
use Rattle.std.proofs.lemmas.List.Concat.{flat_map-append}
use Rattle.ra_book.specs.declared.book.event.BookEvent.{BookEvent}
use Rattle.ra_book.specs.History.{clock_from, clock_of}
use Rattle.ra_book.proofs.Clocks.{clock_append}

-- another list that is joined to others
joined : {A B : Type 0} (f : A → List B) (xs : List A) (x : A) → flat_map f (xs ++ x ∷ []) ≡ flat_map f xs ++ f x
joined {A} {B} f xs x = flat_map-append f xs (x ∷ []) ∙ ap (λ (ys : List B). flat_map f xs ++ ys) (append-nil (f x))

pub all_joined : {A B : Type 0} (f : A → List B) (xs ys : List A) (x : A) (before : List B) → flat_map f xs ≡ before → ys ≡ xs ++ x ∷ [] → flat_map f ys ≡ before ++ f x
all_joined {A} {B} f xs ys x before was more =
    ap (λ (zs : List A). flat_map f zs) more ∙ joined f xs x ∙ ap (λ (zs : List B). zs ++ f x) was

-- the clock after another list of events
pub clock_after_taking : {A : Type 0} (f : A → List BookEvent) (xs ys : List A) (x : A) (clock latest : ℕ) (events : List BookEvent)
    → clock ≡ clock_of (flat_map f xs) → events ≡ f x → latest ≡ clock_from clock events → ys ≡ xs ++ x ∷ [] → latest ≡ clock_of (flat_map f ys)
clock_after_taking {A} f xs ys x clock latest events before are last more =
    last
    ∙ (λ i. clock_from (before i) (are i))
    ∙ sym (clock_append 0 (flat_map f xs) (f x))
    ∙ ap clock_of (sym (ap (λ (zs : List A). flat_map f zs) more ∙ joined f xs x))
