-- The first frame that books still have flagged lost.
use Rattle.std.proofs.Common.{◌≡◌, ℕ, zero, suc, ◌+◌, ◌<◌, ◌≤◌, Bool, true, false, List, [], ◌∷◌, ◌++◌, length, get_or, take, Some, None, Option, refl, sym, ap, ◌∙◌, subst, arith}
use Rattle.std.specs.Prelude.{slice_get}
use Rattle.std.proofs.lemmas.List.{take_all}
use Rattle.std.proofs.lemmas.Option.{none-some, same_Some}
use Rattle.ra_frame.specs.declared.frame.Frame.{Frame}
use Rattle.ra_book.specs.declared.book.sent.Sent.{Sent}
use Rattle.ra_book.specs.Book.{BookState}
use Rattle.ra_site.specs.Losses.{lost_frames}
use Rattle.ra_audit.specs.Audit.{still_lost}

-- ---- In one book

flagged : (s : Sent) (sent : List Sent) → s.lost ≡ true → lost_frames (s ∷ sent) ≡ s.frame ∷ lost_frames sent
flagged s sent is = ap (λ (l : Bool). lost_frames (record { frame = s.frame; lost = l } ∷ sent)) is

unflagged : (s : Sent) (sent : List Sent) → s.lost ≡ false → lost_frames (s ∷ sent) ≡ lost_frames sent
unflagged s sent is = ap (λ (l : Bool). lost_frames (record { frame = s.frame; lost = l } ∷ sent)) is

some_is_none : (f : Frame) (fs : List Frame) → ◌≡◌ {A = List Frame} (f ∷ fs) [] → ⊥
some_is_none f fs is = cc

module _ (s : Sent) (sent : List Sent) where
  -- none of these is lost, so the first one is not
  first_is_not : lost_frames (s ∷ sent) ≡ [] → s.lost ≡ false
  first_is_not none = of s.lost refl
    where
      of : (b : Bool) → s.lost ≡ b → s.lost ≡ false
      of true is = absurd (some_is_none s.frame (lost_frames sent) (sym (flagged s sent is) ∙ none))
      of false is = is

pub found_lost : (sent : List Sent) (i : ℕ) (s : Sent) → slice_get sent i ≡ Some s → s.lost ≡ true → lost_frames (take i sent) ≡ [] → Some s.frame ≡ slice_get (lost_frames sent) 0
found_lost [] i s at is none = absurd (none-some s at)
found_lost (x ∷ xs) zero s at is none =
    let same = same_Some x s at in
    sym (ap (λ (fs : List Frame). slice_get fs 0) (flagged x xs (ap (λ (y : Sent). y.lost) same ∙ is)) ∙ ap (λ (y : Sent). Some y.frame) same)
found_lost (x ∷ xs) (suc i) s at is none =
    let not = first_is_not x (take i xs) none in
    found_lost xs i s at is (sym (unflagged x (take i xs) not) ∙ none) ∙ ap (λ (fs : List Frame). slice_get fs 0) (sym (unflagged x xs not))

pub none_further : (sent : List Sent) (i : ℕ) (s : Sent) → slice_get sent i ≡ Some s → s.lost ≡ false → lost_frames (take i sent) ≡ [] → lost_frames (take (i + 1) sent) ≡ []
none_further [] i s at is none = absurd (none-some s at)
none_further (x ∷ xs) zero s at is none = unflagged x [] (ap (λ (y : Sent). y.lost) (same_Some x s at) ∙ is)
none_further (x ∷ xs) (suc i) s at is none =
    let not = first_is_not x (take i xs) none in
    let next : suc (i + 1) ≡ suc i + 1 = omega arith in
    subst (λ (n : ℕ). lost_frames (take n (x ∷ xs)) ≡ []) next
    (unflagged x (take (i + 1) xs) not ∙ none_further xs i s at is (sym (unflagged x (take i xs) not) ∙ none))

pub none_lost : (sent : List Sent) (n : ℕ) → length sent ≤ n → lost_frames (take n sent) ≡ [] → None ≡ slice_get (lost_frames sent) 0
none_lost sent n long none = ap (λ (fs : List Frame). slice_get fs 0) (sym none ∙ ap lost_frames (take_all n sent long))

-- a place within a list has an item
pub is_there : (xs : List Sent) (place : ℕ) → place < length xs → slice_get xs place ≡ None → ⊥
is_there [] place low none = absurd (omega (arith, low))
is_there (x ∷ xs) zero low none = absurd cc
is_there (x ∷ xs) (suc place) low none = is_there xs place (omega (arith, low)) none

-- ---- In several books

-- neither of two lists has an element
neither : (xs ys : List Frame) → xs ++ ys ≡ [] → (xs ≡ []) × (ys ≡ [])
neither [] ys none = (refl, none)
neither (x ∷ xs) ys none = absurd (some_is_none x (xs ++ ys) none)

-- the first of two lists has the first element
first_of_both : (xs ys : List Frame) (o : Option Frame) (f : Frame) → o ≡ Some f → o ≡ slice_get xs 0 → o ≡ slice_get (xs ++ ys) 0
first_of_both [] ys o f some is = absurd (none-some f (sym is ∙ some))
first_of_both (x ∷ xs) ys o f some is = is

-- without it there is none
empty : (xs : List Frame) → None ≡ slice_get xs 0 → xs ≡ []
empty [] none = refl
empty (x ∷ xs) none = absurd (none-some x none)

pub found_still : (books : List BookState) (i : ℕ) (b : BookState) (o : Option Frame) (f : Frame) → i < length books → b ≡ get_or books i b → o ≡ Some f
    → o ≡ slice_get (lost_frames b.sent) 0 → still_lost (take i books) ≡ [] → o ≡ slice_get (still_lost books) 0
found_still [] i b o f low at some is none = absurd (omega (arith, low))
found_still (x ∷ xs) zero b o f low at some is none =
    first_of_both (lost_frames x.sent) (still_lost xs) o f some (is ∙ ap (λ (y : BookState). slice_get (lost_frames y.sent) 0) at)
found_still (x ∷ xs) (suc i) b o f low at some is none =
    let both = neither (lost_frames x.sent) (still_lost (take i xs)) none in
    found_still xs i b o f (omega (arith, low)) at some is both.1 ∙ ap (λ (fs : List Frame). slice_get (fs ++ still_lost xs) 0) (sym both.0)

pub none_still_further : (books : List BookState) (i : ℕ) (b : BookState) → i < length books → b ≡ get_or books i b → None ≡ slice_get (lost_frames b.sent) 0
    → still_lost (take i books) ≡ [] → still_lost (take (i + 1) books) ≡ []
none_still_further [] i b low at is none = absurd (omega (arith, low))
none_still_further (x ∷ xs) zero b low at is none =
    let here : lost_frames x.sent ≡ [] = ap (λ (y : BookState). lost_frames y.sent) (sym at) ∙ empty (lost_frames b.sent) is in
    ap (λ (fs : List Frame). fs ++ []) here
none_still_further (x ∷ xs) (suc i) b low at is none =
    let both = neither (lost_frames x.sent) (still_lost (take i xs)) none in
    let next : suc (i + 1) ≡ suc i + 1 = omega arith in
    subst (λ (n : ℕ). still_lost (take n (x ∷ xs)) ≡ []) next
    (ap (λ (fs : List Frame). fs ++ still_lost (take (i + 1) xs)) both.0 ∙ none_still_further xs i b (omega (arith, low)) at is both.1)

pub none_still : (books : List BookState) (n : ℕ) → length books ≤ n → still_lost (take n books) ≡ [] → None ≡ slice_get (still_lost books) 0
none_still books n long none = ap (λ (fs : List Frame). slice_get fs 0) (sym none ∙ ap still_lost (take_all n books long))

-- there is none at all
pub none_at_all : (books : List BookState) → None ≡ slice_get (still_lost books) 0 → still_lost books ≡ []
none_at_all books is = empty (still_lost books) is
