-- Grants, and the requests that are granted by marks.
use Rattle.std.proofs.Common.{◌≡◌, ◌≢◌, ℕ, ◌+◌, ◌<◌, ◌≤◌, true, false, not, List, [], ◌∷◌, ◌++◌, map, length, get_or, take, drop, append_assoc, BTreeSet, refl, sym, ap, ◌∙◌, subst, inl, inr, arith}
use Rattle.std.specs.Prelude.{All, AllPairs, Contains, MatchResult, Result, Ok, Err}
use Rattle.std.specs.BTreeSet as sorted
use Rattle.std.proofs.lemmas.List.{take_more, map-append, take_all, append-nil}
use Rattle.std.proofs.lemmas.List.Elements.{All-weaker}
use Rattle.ra_stamp.specs.declared.entry.Entry.{Entry}
use Rattle.ra_stamp.specs.declared.entry.Mark.{Mark}
use Rattle.ra_stamp.specs.declared.entry.Mark.TheVariants.{Requested, Entered, Left, Withdrawn}
use Rattle.ra_book.specs.declared.error.SettleError.{SettleError}
use Rattle.ra_book.specs.declared.error.SettleError.TheVariants.{NotSent, Twice, GrantMissing, GrantTwice, Memory}
use Rattle.ra_book.specs.declared.book.grant.Grant.{Grant}
use Rattle.ra_book.specs.Keys.{OrderKey, HasKeys, entered_in, entry_key}
use Rattle.ra_book.specs.Settled.{Repeats}
use Rattle.ra_book.specs.SettlingParts.{RefusesGrants, RefusesRepeats}
use Rattle.ra_book.proofs.KeyOrders.{key_cmp, key_total, key_exact, one_entry}
use Rattle.ra_book.proofs.KeySets.{HasAll, keys_more, said, denied, of_keys, to_keys, one_more, again, repeats_more}
use Rattle.ra_book.proofs.Parts.{split, more, first, later, first_or_later}

-- ---- Entered marks

pub entered_in-append : (a b : List Mark) → entered_in (a ++ b) ≡ entered_in a ++ entered_in b
entered_in-append [] b = refl
entered_in-append (Requested e ∷ a) b = entered_in-append a b
entered_in-append (Entered e ∷ a) b = ap (λ (es : List Entry). e ∷ es) (entered_in-append a b)
entered_in-append (Left e ∷ a) b = entered_in-append a b
entered_in-append (Withdrawn e ∷ a) b = entered_in-append a b

-- an entry is granted by the marks if its Entered mark is one of them
pub entered_is_mark : (marks : List Mark) (e : Entry) → Contains (entered_in marks) e → Contains marks (Entered e)
entered_is_mark [] e is = absurd (omega (arith, is.1))
entered_is_mark (Requested f ∷ marks) e is = later (Requested f) marks (Entered e) (entered_is_mark marks e is)
entered_is_mark (Entered f ∷ marks) e is =
    elim (first_or_later f (entered_in marks) e is) [
      | inl same ↦ subst (λ (x : Entry). Contains (Entered f ∷ marks) (Entered x)) same (first (Entered f) marks)
      | inr after ↦ later (Entered f) marks (Entered e) (entered_is_mark marks e after)
    ]
entered_is_mark (Left f ∷ marks) e is = later (Left f) marks (Entered e) (entered_is_mark marks e is)
entered_is_mark (Withdrawn f ∷ marks) e is = later (Withdrawn f) marks (Entered e) (entered_is_mark marks e is)

pub mark_is_entered : (marks : List Mark) (e : Entry) → Contains marks (Entered e) → Contains (entered_in marks) e
mark_is_entered [] e is = absurd (omega (arith, is.1))
mark_is_entered (Requested f ∷ marks) e is =
    elim (first_or_later (Requested f) marks (Entered e) is) [
      | inl same ↦ absurd cc
      | inr after ↦ mark_is_entered marks e after
    ]
mark_is_entered (Entered f ∷ marks) e is =
    elim (first_or_later (Entered f) marks (Entered e) is) [
      | inl same ↦ let one : f ≡ e = cc in subst (λ (x : Entry). Contains (f ∷ entered_in marks) x) one (first f (entered_in marks))
      | inr after ↦ later f (entered_in marks) e (mark_is_entered marks e after)
    ]
mark_is_entered (Left f ∷ marks) e is =
    elim (first_or_later (Left f) marks (Entered e) is) [
      | inl same ↦ absurd cc
      | inr after ↦ mark_is_entered marks e after
    ]
mark_is_entered (Withdrawn f ∷ marks) e is =
    elim (first_or_later (Withdrawn f) marks (Entered e) is) [
      | inl same ↦ absurd cc
      | inr after ↦ mark_is_entered marks e after
    ]

-- ---- The set of the requests that are granted

abbrev Keys : BTreeSet OrderKey → List Mark → Type 0
Keys set marks = HasKeys set (map (λ e. entry_key e) (entered_in marks))

entered_more : (marks : List Mark) (i : ℕ) (m : Mark) → i < length marks → m ≡ get_or marks i m → entered_in (take (i + 1) marks) ≡ entered_in (take i marks) ++ entered_in (m ∷ [])
entered_more marks i m within at =
    ap entered_in (take_more marks i m within ∙ ap (λ (x : Mark). take i marks ++ x ∷ []) (sym at)) ∙ entered_in-append (take i marks) (m ∷ [])

pub key_put : (old new : BTreeSet OrderKey) (marks : List Mark) (i : ℕ) (m : Mark) (e : Entry) → i < length marks → m ≡ get_or marks i m → m ≡ Entered e
    → Keys old (take i marks) → sorted.Updates key_cmp old new (entry_key e) true → Keys new (take (i + 1) marks)
key_put old new marks i m e within at is has updated =
    let key = λ (e : Entry). entry_key e in
    let lists : map key (entered_in (take (i + 1) marks)) ≡ map key (entered_in (take i marks)) ++ entry_key e ∷ [] =
    ap (map key) (entered_more marks i m within at ∙ ap (λ (x : Mark). entered_in (take i marks) ++ entered_in (x ∷ [])) is)
    ∙ map-append key (entered_in (take i marks)) (e ∷ [])
    in
    subst (HasKeys new) (sym lists) (keys_more key_total key_exact old new (entry_key e) (map key (entered_in (take i marks))) has updated)

pub key_left_out : (set : BTreeSet OrderKey) (marks : List Mark) (i : ℕ) (m : Mark) → i < length marks → m ≡ get_or marks i m → ((e : Entry) → m ≡ Entered e → ⊥)
    → Keys set (take i marks) → Keys set (take (i + 1) marks)
key_left_out set marks i m within at not has =
    subst (λ (es : List Entry). HasKeys set (map (λ e. entry_key e) es)) (sym (entered_more marks i m within at ∙ ap (λ (es : List Entry). entered_in (take i marks) ++ es) (none m not) ∙ append-nil (entered_in (take i marks)))) has
  where
    none : (m : Mark) → ((e : Entry) → m ≡ Entered e → ⊥) → entered_in (m ∷ []) ≡ []
    none (Requested e) not = refl
    none (Entered e) not = absurd (not e refl)
    none (Left e) not = refl
    none (Withdrawn e) not = refl

-- ---- What it says of a request

pub is_granted : (set : BTreeSet OrderKey) (marks : List Mark) (e : Entry) → Keys set marks → sorted.contains key_cmp set (entry_key e) ≡ true → Contains (entered_in marks) e
is_granted set marks e has is = of_keys key_total key_exact (λ e. entry_key e) one_entry (entered_in marks) e (said key_total key_exact set (map (λ e. entry_key e) (entered_in marks)) (entry_key e) has is)

pub is_not_granted : (set : BTreeSet OrderKey) (marks : List Mark) (e : Entry) → Keys set marks → sorted.contains key_cmp set (entry_key e) ≡ false → Contains marks (Entered e) → ⊥
is_not_granted set marks e has is_not is =
    denied key_total key_exact set (map (λ e. entry_key e) (entered_in marks)) (entry_key e) has is_not (to_keys key_total key_exact (λ e. entry_key e) one_entry (entered_in marks) e (mark_is_entered marks e is))

-- ---- The grants so far

abbrev key_of : Grant → OrderKey
key_of g = entry_key g.entry

one_grant : (a b : Grant) → key_of a ≡ key_of b → a ≡ b
one_grant a b e = let same = one_entry a.entry b.entry e in λ i. record { entry = same i }

abbrev pub Seen : BTreeSet OrderKey → List Grant → Type 0
Seen set grants = HasAll (λ g. entry_key g.entry) set grants

pub next_grant : (old new : BTreeSet OrderKey) (grants : List Grant) (i : ℕ) (g : Grant) → i < length grants → g ≡ get_or grants i g
    → Seen old (take i grants) → sorted.contains key_cmp old (entry_key g.entry) ≡ false → sorted.Updates key_cmp old new (entry_key g.entry) true → Seen new (take (i + 1) grants)
next_grant old new grants i g within at seen is_new updated =
    subst (Seen new) (sym (more grants i g within at)) (one_more key_total key_exact key_of one_grant old new (take i grants) g seen is_new updated)

pub grant_again : (set : BTreeSet OrderKey) (grants : List Grant) (i : ℕ) (g : Grant) → i < length grants → g ≡ get_or grants i g
    → Seen set (take i grants) → sorted.contains key_cmp set (entry_key g.entry) ≡ true → Repeats grants
grant_again set grants i g within at seen is =
    subst Repeats (sym (split grants i g within at))
    (subst Repeats (append_assoc (take i grants) (g ∷ []) (drop (i + 1) grants))
    (repeats_more (take i grants ++ g ∷ []) (drop (i + 1) grants) (again key_total key_exact key_of one_grant set (take i grants) g seen is)))

pub all_granted : (grants : List Grant) (marks : List Mark) (i : ℕ) → length grants ≤ i → All (λ g. Contains (entered_in marks) g.entry) (take i grants) → All (λ g. Contains marks (Entered g.entry)) grants
all_granted grants marks i all granted =
    All-weaker (λ g. Contains (entered_in marks) g.entry) (λ g. Contains marks (Entered g.entry)) (λ g. entered_is_mark marks g.entry) grants
    (subst (λ (gs : List Grant). All (λ g. Contains (entered_in marks) g.entry) gs) (take_all i grants all) granted)

-- grants that are granted are refused if two are equal
pub grants_once : (grants : List Grant) (marks : List Mark) → All (λ g. Contains marks (Entered g.entry)) grants → (r : Result (Unit {0}) SettleError)
    → MatchResult r (λ _. AllPairs (λ a b. a ≢ b) grants) (RefusesRepeats grants)
    → MatchResult r (λ _. All (λ g. Contains marks (Entered g.entry)) grants × AllPairs (λ a b. a ≢ b) grants) (RefusesGrants grants marks)
grants_once grants marks all (Ok v) once = (all, once)
grants_once grants marks all (Err NotSent) why = absurd why
grants_once grants marks all (Err Twice) why = absurd why
grants_once grants marks all (Err GrantMissing) why = absurd why
grants_once grants marks all (Err GrantTwice) why = (why, all)
grants_once grants marks all (Err Memory) why = why
