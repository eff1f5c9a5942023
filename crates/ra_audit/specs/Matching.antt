-- How grants are matched with the Entered marks of a run.
use Rattle.std.specs.Prelude.{◌≡◌, ◌≢◌, ◌⊎◌, Bool, true, false, List, [], ◌∷◌, ◌++◌, map, All, AllPairs, Contains}
use Rattle.std.specs.List.Sorted.{IsPermutation}
use Rattle.ra_stamp.specs.declared.entry.Entry.{Entry}
use Rattle.ra_stamp.specs.declared.entry.Mark.{Mark}
use Rattle.ra_stamp.specs.declared.entry.Mark.TheVariants.{Requested, Entered, Left, Withdrawn}
use Rattle.ra_book.specs.declared.book.grant.Grant.{Grant}
pub use Rattle.ra_book.specs.Keys.{entered_in}

-- the requests of these grants, in order
abbrev pub entries_of : List Grant → List Entry
entries_of grants = map (λ grant. grant.entry) grants

-- Grants are matched with the Entered marks of their requests, one for one. These requests of grants are left over, and
-- these of marks.
pub record AreMatched (marks : List Mark) (grants : List Grant) (waiting others : List Entry) : Type 0 where
  pub matched : List Entry
  pub grants_are : IsPermutation (entries_of grants) (matched ++ waiting)
  pub marks_are : IsPermutation (entered_in marks) (matched ++ others)

-- each grant is matched with a mark of its own
abbrev pub AreAllMatched : List Mark → List Grant → Type 0
AreAllMatched marks grants = (others : List Entry) × AreMatched marks grants [] others

-- Once grants and marks were matched, a grant of this request is left over, and no mark of it. So there are fewer
-- Entered marks of the request than grants.
pub record IsUnmatched (marks : List Mark) (grants : List Grant) (entry : Entry) : Type 0 where
  pub waiting : List Entry
  pub others : List Entry
  pub matched : AreMatched marks grants waiting others
  pub is_waiting : Contains waiting entry
  pub no_mark : Contains others entry → ⊥

-- What a matcher knows: the marks that it was told, the grants that it was given, the requests whose grants wait for a
-- mark, the requests whose Entered marks wait for a grant, and whether it has forgotten some of these marks.
pub record MatcherState : Type 0 where
  pub told : List Mark
  pub grants : List Grant
  pub waiting : List Entry
  pub left : List Entry
  pub forgot : Bool

-- no request waits for a mark and for a grant at once
abbrev pub AreApart : List Entry → List Entry → Type 0
AreApart waiting left = (entry : Entry) → Contains waiting entry → Contains left entry → ⊥

-- what is matched, and what is left over, forgotten marks with it
pub record IsMatcher (state : MatcherState) : Type 0 where
  pub forgotten : List Entry
  pub matching : AreMatched state.told state.grants state.waiting (state.left ++ forgotten)
  pub all_kept : state.forgot ≡ false → forgotten ≡ []
  pub apart : AreApart state.waiting state.left

-- ---- What happens to a grant and to a mark

-- A grant was given. If marks of its request are kept, it is matched with one, which is then not kept any more; they
-- are equal, so it does not matter which one. Otherwise its request waits, after the others. Nothing else has changed.
pub record TakesGrant (old : MatcherState) (grant : Grant) (new : MatcherState) : Type 0 where
  pub matched : Contains old.left grant.entry → IsPermutation old.left (grant.entry ∷ new.left)
      × (new ≡ record old { grants = old.grants ++ grant ∷ []; left = new.left })
  pub waits : (Contains old.left grant.entry → ⊥)
      → new ≡ record old { grants = old.grants ++ grant ∷ []; waiting = old.waiting ++ grant.entry ∷ [] }

-- The Entered mark of this request was told. If grants of the request wait, it is matched with one, which then does not
-- wait any more. Otherwise the mark is kept, after the others, or forgotten. Nothing else has changed.
pub record TakesEntered (old : MatcherState) (entry : Entry) (new : MatcherState) : Type 0 where
  pub matched : Contains old.waiting entry → IsPermutation old.waiting (entry ∷ new.waiting)
      × (new ≡ record old { told = old.told ++ Entered entry ∷ []; waiting = new.waiting })
  pub left_over : (Contains old.waiting entry → ⊥)
      → (new ≡ record old { told = old.told ++ Entered entry ∷ []; left = old.left ++ entry ∷ [] })
      ⊎ (new ≡ record old { told = old.told ++ Entered entry ∷ []; forgot = true })

-- A mark was told. A mark that is not Entered is told, and nothing else has changed.
abbrev pub TakesMark : MatcherState → Mark → MatcherState → Type 0
TakesMark old (Requested entry) new = new ≡ record old { told = old.told ++ Requested entry ∷ [] }
TakesMark old (Entered entry) new = TakesEntered old entry new
TakesMark old (Left entry) new = new ≡ record old { told = old.told ++ Left entry ∷ [] }
TakesMark old (Withdrawn entry) new = new ≡ record old { told = old.told ++ Withdrawn entry ∷ [] }

-- ---- What was granted

-- each of these grants was granted in a run with these marks, and no two are equal
pub record AreGrantedOnce (marks : List Mark) (grants : List Grant) : Type 0 where
  pub granted : All (λ grant. Contains marks (Entered grant.entry)) grants
  pub once : AllPairs (λ a b. a ≢ b) grants
