-- The request that an event let in, by its marks, as a loop over these finds it.
use Rattle.std.proofs.Common.{◌≡◌, ℕ, suc, ◌+◌, ◌<◌, ◌≤◌, List, [], ◌∷◌, length, get_or, drop, Option, Some, None, refl, sym, ap, ◌∙◌, arith}
use Rattle.std.specs.Prelude.{Contains, IfSome}
use Rattle.std.proofs.lemmas.List.{drop_more, drop_all}
use Rattle.ra_stamp.specs.declared.entry.Entry.{Entry}
use Rattle.ra_stamp.specs.declared.entry.Mark.{Mark}
use Rattle.ra_stamp.specs.declared.entry.Mark.TheVariants.{Requested, Entered, Left, Withdrawn}
use Rattle.ra_book.specs.declared.book.grant.Grant.{Grant}
use Rattle.ra_site.specs.Waiting.{entry_let_in}

-- the marks from a place on begin with the one that is there
next : (marks : List Mark) (i : ℕ) (mark : Mark) → i < length marks → mark ≡ get_or marks i mark → entry_let_in (drop i marks) ≡ entry_let_in (mark ∷ drop (i + 1) marks)
next marks i mark within is = ap entry_let_in (drop_more marks i mark within ∙ ap (λ (m : Mark). m ∷ drop (i + 1) marks) (sym is))

skipped : (mark : Mark) (marks : List Mark) → ((e : Entry) → mark ≡ Entered e → ⊥) → entry_let_in (mark ∷ marks) ≡ entry_let_in marks
skipped (Requested e) marks other = refl
skipped (Entered e) marks other = absurd (other e refl)
skipped (Left e) marks other = refl
skipped (Withdrawn e) marks other = refl

-- one of another kind is passed over
pub passed_over : (marks : List Mark) (i : ℕ) (mark : Mark) → i < length marks → mark ≡ get_or marks i mark → ((e : Entry) → mark ≡ Entered e → ⊥)
    → entry_let_in marks ≡ entry_let_in (drop i marks) → entry_let_in marks ≡ entry_let_in (drop (i + 1) marks)
passed_over marks i mark within is other so_far = so_far ∙ next marks i mark within is ∙ skipped mark (drop (i + 1) marks) other

-- the first one is found
pub found : (marks : List Mark) (i : ℕ) (mark : Mark) (e : Entry) → i < length marks → mark ≡ get_or marks i mark → mark ≡ Entered e
    → entry_let_in marks ≡ entry_let_in (drop i marks) → Some e ≡ entry_let_in marks
found marks i mark e within is entered so_far =
    sym (so_far ∙ next marks i mark within is ∙ ap (λ (m : Mark). entry_let_in (m ∷ drop (i + 1) marks)) entered)

-- or none is there
pub none_found : (marks : List Mark) (i : ℕ) → length marks ≤ i → entry_let_in marks ≡ entry_let_in (drop i marks) → ◌≡◌ {A = Option Entry} None (entry_let_in marks)
none_found marks i past so_far = sym (so_far ∙ ap entry_let_in (drop_all i marks past))

-- ---- Its mark

later : (mark : Mark) (marks : List Mark) (e : Entry) → Contains marks (Entered e) → Contains (mark ∷ marks) (Entered e)
later mark marks e there = (suc there.0, omega (arith, there.1), there.2)

is_there : (marks : List Mark) (e : Entry) → entry_let_in marks ≡ Some e → Contains marks (Entered e)
is_there [] e is = absurd cc
is_there (Requested x ∷ marks) e is = later (Requested x) marks e (is_there marks e is)
is_there (Entered x ∷ marks) e is = let same : x ≡ e = cc in (0, omega arith, ap Entered same)
is_there (Left x ∷ marks) e is = later (Left x) marks e (is_there marks e is)
is_there (Withdrawn x ∷ marks) e is = later (Withdrawn x) marks e (is_there marks e is)

-- it is among the marks
pub let_in_is_there : (seen marks : List Mark) (e : Entry) → seen ≡ marks → entry_let_in seen ≡ Some e → Contains marks (Entered e)
let_in_is_there seen marks e same is = is_there marks e (ap entry_let_in (sym same) ∙ is)

pub entered_if_told : {T : Type 0} (Q : T × Grant → Type 0) (told : Option (T × Grant)) (seen marks : List Mark) → seen ≡ marks
    → IfSome told (λ t. (entry_let_in seen ≡ Some t.1.entry) × Q t) → IfSome told (λ t. Contains marks (Entered t.1.entry))
entered_if_told Q None seen marks same some = tt
entered_if_told Q (Some t) seen marks same some = let_in_is_there seen marks t.1.entry same some.0
