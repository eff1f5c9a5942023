-- Grants and marks are matched one after the other.
use Rattle.std.proofs.Common.{◌≡◌, ℕ, ◌<◌, Bool, true, false, List, [], ◌∷◌, ◌++◌, length, get_or, refl, sym, ap, ◌∙◌, subst, inl, inr, arith}
use Rattle.std.specs.Prelude.{if◌then◌else◌, Contains, swap_remove, Result, Ok, Err, OnErr, is_ok, is_err}
use Rattle.std.specs.List.Sorted.{IsPermutation}
use Rattle.std.proofs.lemmas.List.{map-append, append-nil, append_assoc, get_or_default}
use Rattle.std.proofs.lemmas.List.Elements.{Contains-append_right, Contains-push_cases}
use Rattle.std.proofs.lemmas.List.Sorted.{IsPermutation-refl, IsPermutation-sym, IsPermutation-trans, IsPermutation-cons, IsPermutation-to_front, IsPermutation-swap_remove, IsPermutation-append_left, IsPermutation-append_right, Contains-permutation}
use Rattle.std.proofs.lemmas.Bool.{true≢false}
use Rattle.ra_stamp.specs.declared.entry.Entry.{Entry}
use Rattle.ra_stamp.specs.declared.entry.Mark.{Mark}
use Rattle.ra_stamp.specs.declared.entry.Mark.TheVariants.{Requested, Entered, Left, Withdrawn}
use Rattle.ra_book.specs.declared.book.grant.Grant.{Grant}
use Rattle.ra_audit.specs.Matching.{MatcherState, IsMatcher, IsUnmatched, TakesGrant, TakesEntered, entered_in, entries_of}

-- ---- Lists with the same elements

module _ {X : Type 0} where
  -- one in the middle comes first
  middle : (xs ys : List X) (x : X) → IsPermutation (xs ++ x ∷ ys) (x ∷ xs ++ ys)
  middle xs ys x =
      subst (λ (l : List X). IsPermutation l (x ∷ xs ++ ys)) (append_assoc xs (x ∷ []) ys) (IsPermutation-append_left ys (xs ++ x ∷ []) (x ∷ xs) (IsPermutation-to_front xs x))

  -- another one on both sides
  both_more : (all xs ys : List X) (x : X) → IsPermutation all (xs ++ ys) → IsPermutation (all ++ x ∷ []) (x ∷ xs ++ ys)
  both_more all xs ys x same = IsPermutation-trans (all ++ x ∷ []) (x ∷ all) (x ∷ xs ++ ys) (IsPermutation-to_front all x) (IsPermutation-cons x all (xs ++ ys) same)

  -- one of those that are left over occurs now
  one_less : (all xs ys zs : List X) (x : X) → IsPermutation all (xs ++ ys) → IsPermutation ys (x ∷ zs) → IsPermutation all (x ∷ xs ++ zs)
  one_less all xs ys zs x same less =
      IsPermutation-trans all (xs ++ ys) (x ∷ xs ++ zs) same
      (IsPermutation-trans (xs ++ ys) (xs ++ x ∷ zs) (x ∷ xs ++ zs) (IsPermutation-append_right xs ys (x ∷ zs) less) (middle xs zs x))

  -- another one is left over
  one_over : (all xs ys zs : List X) (x : X) → IsPermutation all (xs ++ ys) → IsPermutation (x ∷ ys) zs → IsPermutation (all ++ x ∷ []) (xs ++ zs)
  one_over all xs ys zs x same more =
      IsPermutation-trans (all ++ x ∷ []) (x ∷ xs ++ ys) (xs ++ zs) (both_more all xs ys x same)
      (IsPermutation-trans (x ∷ xs ++ ys) (xs ++ x ∷ ys) (xs ++ zs) (IsPermutation-sym (xs ++ x ∷ ys) (x ∷ xs ++ ys) (middle xs ys x))
      (IsPermutation-append_right xs (x ∷ ys) zs more))

  -- the one that is found at a place is taken out
  pub taken_out : (xs : List X) (place : ℕ) (x taken : X) → place < length xs → get_or xs place x ≡ x → taken ≡ get_or xs place taken → IsPermutation xs (x ∷ swap_remove xs place taken)
  taken_out xs place x taken low found is =
      let same : taken ≡ x = is ∙ get_or_default xs place taken x low ∙ found in
      subst (λ (y : X). IsPermutation xs (y ∷ swap_remove xs place taken)) same (IsPermutation-swap_remove xs place taken low is)

-- ---- Marks

pub entered_in-append : (marks more : List Mark) → entered_in (marks ++ more) ≡ entered_in marks ++ entered_in more
entered_in-append [] more = refl
entered_in-append (Requested e ∷ marks) more = entered_in-append marks more
entered_in-append (Entered e ∷ marks) more = ap (λ (es : List Entry). e ∷ es) (entered_in-append marks more)
entered_in-append (Left e ∷ marks) more = entered_in-append marks more
entered_in-append (Withdrawn e ∷ marks) more = entered_in-append marks more

abbrev pub entries_more : (grants : List Grant) (g : Grant) → entries_of (grants ++ g ∷ []) ≡ entries_of grants ++ g.entry ∷ []
entries_more grants g = map-append (λ (x : Grant). x.entry) grants (g ∷ [])

-- the state of a matcher
abbrev pub state : List Mark → List Grant → List Entry → List Entry → Bool → MatcherState
state told grants waiting left forgot = record { told = told; grants = grants; waiting = waiting; left = left; forgot = forgot }

pub is_first : IsMatcher (state [] [] [] [] false)
is_first = record {
  forgotten = [];
  matching = record { matched = []; grants_are = IsPermutation-refl []; marks_are = IsPermutation-refl [] };
  all_kept = λ _. refl;
  apart = λ e there _. nowhere e there;
}
  where
    nowhere : (e : Entry) → Contains [] e → ⊥
    nowhere e there = omega (arith, there.1)

-- the same matcher, if its parts are equal
pub is_as : (told told' : List Mark) (grants grants' : List Grant) (waiting waiting' left left' : List Entry) (forgot : Bool) → told' ≡ told → grants' ≡ grants → waiting' ≡ waiting → left' ≡ left
    → IsMatcher (state told grants waiting left forgot) → IsMatcher (state told' grants' waiting' left' forgot)
is_as told told' grants grants' waiting waiting' left left' forgot t g w l is = subst IsMatcher (λ i. state (sym t i) (sym g i) (sym w i) (sym l i) forgot) is

-- the list after a push that failed, and after one that did not
pub not_pushed : {A E : Type 0} (xs ys : List Entry) (x : Entry) (r : Result A E) → ys ≡ (if is_ok r then xs ++ x ∷ [] else xs) → is_err r ≡ true → ys ≡ xs
not_pushed xs ys x (Ok u) is failed = absurd (true≢false (sym failed))
not_pushed xs ys x (Err e) is failed = is

pub was_pushed : {A E : Type 0} (xs ys : List Entry) (x : Entry) (r : Result A E) → ys ≡ (if is_ok r then xs ++ x ∷ [] else xs) → is_err r ≡ false → ys ≡ xs ++ x ∷ []
was_pushed xs ys x (Ok u) is pushed = is
was_pushed xs ys x (Err e) is pushed = absurd (true≢false pushed)

module _ (told : List Mark) (grants : List Grant) (waiting left : List Entry) (forgot : Bool) (is : IsMatcher (state told grants waiting left forgot)) where
  abbrev m : List Entry
  m = is.matching.matched

  -- a grant whose mark is kept
  pub grant_matched : (g : Grant) (left' : List Entry) → IsPermutation left (g.entry ∷ left') → IsMatcher (state told (grants ++ g ∷ []) waiting left' forgot)
  grant_matched g left' less = record {
    forgotten = is.forgotten;
    matching = record {
      matched = g.entry ∷ m;
      grants_are = subst (λ (es : List Entry). IsPermutation es (g.entry ∷ m ++ waiting)) (sym (entries_more grants g)) (both_more (entries_of grants) m waiting g.entry is.matching.grants_are);
      marks_are = one_less (entered_in told) m (left ++ is.forgotten) (left' ++ is.forgotten) g.entry is.matching.marks_are (IsPermutation-append_left is.forgotten left (g.entry ∷ left') less);
    };
    all_kept = is.all_kept;
    apart = λ e waits there. is.apart e waits (Contains-permutation (g.entry ∷ left') left e (IsPermutation-sym left (g.entry ∷ left') less) (Contains-append_right (g.entry ∷ []) left' e there));
  }

  -- a grant whose mark is not kept
  pub grant_waits : (g : Grant) → (Contains left g.entry → ⊥) → IsMatcher (state told (grants ++ g ∷ []) (waiting ++ g.entry ∷ []) left forgot)
  grant_waits g none = record {
    forgotten = is.forgotten;
    matching = record {
      matched = m;
      grants_are = subst (λ (es : List Entry). IsPermutation es (m ++ (waiting ++ g.entry ∷ []))) (sym (entries_more grants g))
          (one_over (entries_of grants) m waiting (waiting ++ g.entry ∷ []) g.entry is.matching.grants_are
          (IsPermutation-sym (waiting ++ g.entry ∷ []) (g.entry ∷ waiting) (IsPermutation-to_front waiting g.entry)));
      marks_are = is.matching.marks_are;
    };
    all_kept = is.all_kept;
    apart = λ e waits there. elim (Contains-push_cases waiting g.entry e waits) [
      | inl before ↦ is.apart e before there
      | inr same ↦ none (subst (Contains left) (sym same) there)
    ];
  }

  one_more : (mark : Mark) (e : Entry) → mark ≡ Entered e → entered_in (told ++ mark ∷ []) ≡ entered_in told ++ e ∷ []
  one_more mark e enters = ap (λ (x : Mark). entered_in (told ++ x ∷ [])) enters ∙ entered_in-append told (Entered e ∷ [])

  -- a mark whose grant waits
  pub mark_matched : (mark : Mark) (e : Entry) (waiting' : List Entry) → mark ≡ Entered e → IsPermutation waiting (e ∷ waiting')
      → IsMatcher (state (told ++ mark ∷ []) grants waiting' left forgot)
  mark_matched mark e waiting' enters less = record {
    forgotten = is.forgotten;
    matching = record {
      matched = e ∷ m;
      grants_are = one_less (entries_of grants) m waiting waiting' e is.matching.grants_are less;
      marks_are = subst (λ (es : List Entry). IsPermutation es (e ∷ m ++ (left ++ is.forgotten))) (sym (one_more mark e enters))
          (both_more (entered_in told) m (left ++ is.forgotten) e is.matching.marks_are);
    };
    all_kept = is.all_kept;
    apart = λ x waits there. is.apart x (Contains-permutation (e ∷ waiting') waiting x (IsPermutation-sym waiting (e ∷ waiting') less) (Contains-append_right (e ∷ []) waiting' x waits)) there;
  }

  -- a mark whose grant does not, which is kept
  pub mark_kept : (mark : Mark) (e : Entry) → mark ≡ Entered e → (Contains waiting e → ⊥) → IsMatcher (state (told ++ mark ∷ []) grants waiting (left ++ e ∷ []) forgot)
  mark_kept mark e enters none = record {
    forgotten = is.forgotten;
    matching = record {
      matched = m;
      grants_are = is.matching.grants_are;
      marks_are = subst (λ (es : List Entry). IsPermutation es (m ++ ((left ++ e ∷ []) ++ is.forgotten))) (sym (one_more mark e enters))
          (one_over (entered_in told) m (left ++ is.forgotten) ((left ++ e ∷ []) ++ is.forgotten) e is.matching.marks_are
          (IsPermutation-append_left is.forgotten (e ∷ left) (left ++ e ∷ []) (IsPermutation-sym (left ++ e ∷ []) (e ∷ left) (IsPermutation-to_front left e))));
    };
    all_kept = is.all_kept;
    apart = λ x waits there. elim (Contains-push_cases left e x there) [
      | inl before ↦ is.apart x waits before
      | inr same ↦ none (subst (Contains waiting) (sym same) waits)
    ];
  }

  -- or which is forgotten
  pub mark_forgotten : (mark : Mark) (e : Entry) → mark ≡ Entered e → IsMatcher (state (told ++ mark ∷ []) grants waiting left true)
  mark_forgotten mark e enters = record {
    forgotten = e ∷ is.forgotten;
    matching = record {
      matched = m;
      grants_are = is.matching.grants_are;
      marks_are = subst (λ (es : List Entry). IsPermutation es (m ++ (left ++ e ∷ is.forgotten))) (sym (one_more mark e enters))
          (one_over (entered_in told) m (left ++ is.forgotten) (left ++ e ∷ is.forgotten) e is.matching.marks_are
          (IsPermutation-sym (left ++ e ∷ is.forgotten) (e ∷ left ++ is.forgotten) (middle left is.forgotten e)));
    };
    all_kept = λ no. absurd (true≢false no);
    apart = is.apart;
  }

  -- a mark of something else
  pub mark_passed : (mark : Mark) → entered_in (mark ∷ []) ≡ [] → IsMatcher (state (told ++ mark ∷ []) grants waiting left forgot)
  mark_passed mark none = record {
    forgotten = is.forgotten;
    matching = record {
      matched = m;
      grants_are = is.matching.grants_are;
      marks_are = subst (λ (es : List Entry). IsPermutation es (m ++ (left ++ is.forgotten)))
          (sym (entered_in-append told (mark ∷ []) ∙ ap (λ (es : List Entry). entered_in told ++ es) none ∙ append-nil (entered_in told))) is.matching.marks_are;
    };
    all_kept = is.all_kept;
    apart = is.apart;
  }

  -- a grant that waits at the end has no mark
  pub is_unmatched : (e : Entry) → Contains waiting e → forgot ≡ false → IsUnmatched told grants e
  is_unmatched e waits kept = record {
    waiting = waiting;
    others = left ++ is.forgotten;
    matched = is.matching;
    is_waiting = waits;
    no_mark = λ there. is.apart e waits (subst (λ (es : List Entry). Contains es e) (ap (λ (es : List Entry). left ++ es) (is.all_kept kept) ∙ append-nil left) there);
  }

-- ---- What happens to a grant and to a mark

pub takes_matched : (old new : MatcherState) (g : Grant) → Contains old.left g.entry → IsPermutation old.left (g.entry ∷ new.left)
    → new ≡ record old { grants = old.grants ++ g ∷ []; left = new.left } → TakesGrant old g new
takes_matched old new g there less is = record { matched = λ _. (less, is); waits = λ none. absurd (none there) }

pub takes_waiting : (old new : MatcherState) (g : Grant) → (Contains old.left g.entry → ⊥)
    → new ≡ record old { grants = old.grants ++ g ∷ []; waiting = old.waiting ++ g.entry ∷ [] } → TakesGrant old g new
takes_waiting old new g none is = record { matched = λ there. absurd (none there); waits = λ _. is }

pub enters_matched : (old new : MatcherState) (e : Entry) → Contains old.waiting e → IsPermutation old.waiting (e ∷ new.waiting)
    → new ≡ record old { told = old.told ++ Entered e ∷ []; waiting = new.waiting } → TakesEntered old e new
enters_matched old new e there less is = record { matched = λ _. (less, is); left_over = λ none. absurd (none there) }

pub enters_kept : (old new : MatcherState) (e : Entry) → (Contains old.waiting e → ⊥)
    → new ≡ record old { told = old.told ++ Entered e ∷ []; left = old.left ++ e ∷ [] } → TakesEntered old e new
enters_kept old new e none is = record { matched = λ there. absurd (none there); left_over = λ _. inl is }

pub enters_forgotten : (old new : MatcherState) (e : Entry) → (Contains old.waiting e → ⊥)
    → new ≡ record old { told = old.told ++ Entered e ∷ []; forgot = true } → TakesEntered old e new
enters_forgotten old new e none is = record { matched = λ there. absurd (none there); left_over = λ _. inr is }

-- the same of a matcher that is equal
pub takes_as : (inside old new : MatcherState) (g : Grant) → inside ≡ old → TakesGrant inside g new → TakesGrant old g new
takes_as inside old new g same takes = subst (λ (s : MatcherState). TakesGrant s g new) same takes

pub enters_as : (inside old new : MatcherState) (e : Entry) → inside ≡ old → TakesEntered inside e new → TakesEntered old e new
enters_as inside old new e same takes = subst (λ (s : MatcherState). TakesEntered s e new) same takes

pub if_err : {A E : Type 0} (r : Result (Unit {0}) E) → A → OnErr r A
if_err (Ok x) a = tt
if_err (Err e) a = a
