-- A client's marks against its operations, one mark at a time.
use Rattle.std.proofs.Common.{◌≡◌, ℕ, zero, suc, ◌+◌, ◌<◌, ◌≤◌, Bool, true, false, cond, List, [], ◌∷◌, length, get_or, drop, Option, Some, None, slice_get, All, refl, sym, ap, ◌∙◌, subst, arith, inl, inr}
use Rattle.std.specs.Prelude.{◌↔◌, ◌==◌, option_and_then, option_map}
use Rattle.std.specs.List.{filter}
use Rattle.std.proofs.lemmas.Bool.{cases_lt, cases_Bool, eq-eqb, ne_eqb}
use Rattle.std.proofs.lemmas.List.{drop_more, drop_all}
use Rattle.std.proofs.lemmas.Option.{slice_get_past, slice_get_cases, same_Some, none-some}
use Rattle.ra_stamp.specs.declared.entry.Mark.{Mark}
use Rattle.ra_stamp.specs.declared.entry.Mark.TheVariants.{Requested, Entered, Left, Withdrawn}
use Rattle.ra_schedule.specs.declared.script.Op.{Op}
use Rattle.ra_schedule.specs.declared.script.Op.TheVariants.{Lock, Unlock}
use Rattle.ra_schedule.specs.Script.{ScriptState, ScriptClient, client_at}
use Rattle.ra_cluster.specs.Plan.{client_of_mark, marks_of_client, IsNextMark, FollowsOps, IsFollowed, MeetsPlanOf, MeetsPlan, is_request}

-- ---- One mark

-- the operations from one on, if the first is requested already or not
abbrev pub FollowsFrom : ℕ → Bool → List Op → List Mark → Type 0
FollowsFrom node false ops marks = FollowsOps node ops marks
FollowsFrom node true (Lock name mode ∷ ops) (mark ∷ marks) =
    IsNextMark node (Lock name mode) true mark × FollowsOps node ops marks
FollowsFrom node true ops marks = ⊥

-- the operations that are left after a mark: a request leaves its operation
abbrev pub left_after : Bool → Op → List Op → List Op
left_after true op ops = op ∷ ops
left_after false op ops = ops

pub next_on : (node : ℕ) (op : Op) (ops : List Op) (requested : Bool) (mark : Mark) (marks : List Mark) → IsNextMark node op requested mark
    → FollowsFrom node requested (op ∷ ops) (mark ∷ marks) ↔ FollowsFrom node (is_request mark) (left_after (is_request mark) op ops) marks
next_on node (Lock name mode) ops false (Requested entry) [] next = (λ h. absurd h, λ h. absurd h)
next_on node (Lock name mode) ops false (Requested entry) (second ∷ marks) next = (λ h. (h.1, h.2), λ h. (next, h.0, h.1))
next_on node (Lock name mode) ops false (Entered entry) marks next = absurd next
next_on node (Lock name mode) ops false (Left entry) marks next = absurd next
next_on node (Lock name mode) ops false (Withdrawn entry) marks next = absurd next
next_on node (Lock name mode) ops true (Requested entry) marks next = absurd next
next_on node (Lock name mode) ops true (Entered entry) marks next = (λ h. h.1, λ h. (next, h))
next_on node (Lock name mode) ops true (Left entry) marks next = absurd next
next_on node (Lock name mode) ops true (Withdrawn entry) marks next = absurd next
next_on node (Unlock name) ops false (Requested entry) marks next = absurd next
next_on node (Unlock name) ops false (Entered entry) marks next = absurd next
next_on node (Unlock name) ops false (Left entry) marks next = (λ h. h.1, λ h. (next, h))
next_on node (Unlock name) ops false (Withdrawn entry) marks next = absurd next
next_on node (Unlock name) ops true mark marks next = absurd next

pub is_next : (node : ℕ) (op : Op) (ops : List Op) (requested : Bool) (mark : Mark) (marks : List Mark)
    → FollowsFrom node requested (op ∷ ops) (mark ∷ marks) → IsNextMark node op requested mark
is_next node (Lock name mode) ops false mark [] h = absurd h
is_next node (Lock name mode) ops false mark (second ∷ marks) h = h.0
is_next node (Lock name mode) ops true mark marks h = h.0
is_next node (Unlock name) ops false mark marks h = h.0
is_next node (Unlock name) ops true mark marks h = absurd h

no_op : (node : ℕ) (requested : Bool) (mark : Mark) (marks : List Mark) → FollowsFrom node requested [] (mark ∷ marks) → ⊥
no_op node false mark marks h = h
no_op node true mark marks h = h

pub at_end : (node : ℕ) (requested : Bool) (ops : List Op) → FollowsFrom node requested ops [] ↔ ((requested ≡ false) × (ops ≡ []))
at_end node false [] = (λ h. (refl, refl), λ h. tt)
at_end node false (Lock name mode ∷ ops) = (λ h. absurd h, λ h. let e = h.1 in absurd (cc))
at_end node false (Unlock name ∷ ops) = (λ h. absurd h, λ h. let e = h.1 in absurd (cc))
at_end node true [] = (λ h. absurd h, λ h. let e = h.0 in absurd (cc))
at_end node true (Lock name mode ∷ ops) = (λ h. absurd h, λ h. let e = h.0 in absurd (cc))
at_end node true (Unlock name ∷ ops) = (λ h. absurd h, λ h. let e = h.0 in absurd (cc))

-- ---- The operations from a place on

abbrev pub rest_of : Option ScriptClient → ℕ → List Op
rest_of None place = []
rest_of (Some c) place = drop place c.ops

drop_at : {X : Type 0} (xs : List X) (k : ℕ) (x : X) → slice_get xs k ≡ Some x → drop k xs ≡ x ∷ drop (suc k) xs
drop_at [] k x is = absurd (none-some x is)
drop_at (y ∷ xs) zero x is = ap (λ z. z ∷ xs) (same_Some y x is)
drop_at (y ∷ xs) (suc k) x is = drop_at xs k x is

drop_none : {X : Type 0} (xs : List X) (k : ℕ) → slice_get xs k ≡ None → drop k xs ≡ []
drop_none [] zero is = refl
drop_none [] (suc k) is = refl
drop_none (y ∷ xs) zero is = absurd (none-some y (sym is))
drop_none (y ∷ xs) (suc k) is = drop_none xs k is

none_drop : {X : Type 0} (xs : List X) (k : ℕ) → drop k xs ≡ [] → slice_get xs k ≡ None
none_drop [] k is = refl
none_drop (y ∷ xs) zero is = absurd (cc)
none_drop (y ∷ xs) (suc k) is = none_drop xs k is

pub rest_at : (o : Option ScriptClient) (place next : ℕ) (op : Op) → next ≡ suc place
    → Some op ≡ option_and_then (λ c. slice_get c.ops place) o → rest_of o place ≡ op ∷ rest_of o next
rest_at None place next op more is = absurd (none-some op (sym is))
rest_at (Some c) place next op more is = drop_at c.ops place op (sym is) ∙ ap (λ (n : ℕ). op ∷ drop n c.ops) (sym more)

pub rest_none : (o : Option ScriptClient) (place : ℕ) → None ≡ option_and_then (λ c. slice_get c.ops place) o → rest_of o place ≡ []
rest_none None place is = refl
rest_none (Some c) place is = drop_none c.ops place (sym is)

pub none_rest : (o : Option ScriptClient) (place : ℕ) → rest_of o place ≡ [] → None ≡ option_and_then (λ c. slice_get c.ops place) o
none_rest None place is = refl
none_rest (Some c) place is = sym (none_drop c.ops place is)

-- ---- The marks of a client

some_mark : (client : ℕ) (mark : Mark) (marks : List Mark) → client_of_mark mark ≡ client
    → marks_of_client client (mark ∷ marks) ≡ mark ∷ marks_of_client client marks
some_mark client mark marks is =
    ap
    (λ (b : Bool). cond b (mark ∷ marks_of_client client marks) (marks_of_client client marks))
    (eq-eqb (client_of_mark mark) client is)

other_mark : (client : ℕ) (mark : Mark) (marks : List Mark) → (client_of_mark mark ≡ client → ⊥)
    → marks_of_client client (mark ∷ marks) ≡ marks_of_client client marks
other_mark client mark marks not =
    ap
    (λ (b : Bool). cond b (mark ∷ marks_of_client client marks) (marks_of_client client marks))
    (ne_eqb (client_of_mark mark) client not)

-- ---- The loop over the marks

-- What is left to follow after this many marks, if those so far were the marks of the operations before a place, and
-- `requested` says whether the one there is requested already.
abbrev pub SameLeft : ℕ → Option ScriptClient → ℕ → List Mark → Bool → ℕ → ℕ → Type 0
SameLeft node o client marks requested place i =
    FollowsOps node (rest_of o 0) (marks_of_client client marks)
    ↔ FollowsFrom node requested (rest_of o place) (marks_of_client client (drop i marks))

-- the mark is another client's
pub skip_mark : (node : ℕ) (o : Option ScriptClient) (client : ℕ) (marks : List Mark) (requested : Bool) (place i : ℕ) (mark : Mark)
    → i < length marks → mark ≡ get_or marks i mark → (client_of_mark mark ≡ client → ⊥)
    → SameLeft node o client marks requested place i → SameLeft node o client marks requested place (i + 1)
skip_mark node o client marks requested place i mark less is not before =
    let rest : drop i marks ≡ mark ∷ drop (i + 1) marks = drop_more marks i mark less ∙ ap (λ (m : Mark). m ∷ drop (i + 1) marks) (sym is) in
    let same : marks_of_client client (drop i marks) ≡ marks_of_client client (drop (i + 1) marks) =
    ap (marks_of_client client) rest ∙ other_mark client mark (drop (i + 1) marks) not in
    let P : List Mark → Type 0 = λ ms. FollowsFrom node requested (rest_of o place) ms in (
      λ h. subst P same (before.0 h),
      λ h. before.1 (subst P (sym same) h),
    )

-- what is left, if the mark is the client's
here : (node : ℕ) (o : Option ScriptClient) (client : ℕ) (marks : List Mark) (requested : Bool) (place i : ℕ) (mark : Mark) (ops : List Op)
    → i < length marks → mark ≡ get_or marks i mark → client_of_mark mark ≡ client → rest_of o place ≡ ops
    → SameLeft node o client marks requested place i
    → FollowsOps node (rest_of o 0) (marks_of_client client marks)
    ↔ FollowsFrom node requested ops (mark ∷ marks_of_client client (drop (i + 1) marks))
here node o client marks requested place i mark ops less is mine left before =
    let rest : drop i marks ≡ mark ∷ drop (i + 1) marks = drop_more marks i mark less ∙ ap (λ (m : Mark). m ∷ drop (i + 1) marks) (sym is) in
    let same : marks_of_client client (drop i marks) ≡ mark ∷ marks_of_client client (drop (i + 1) marks) =
    ap (marks_of_client client) rest ∙ some_mark client mark (drop (i + 1) marks) mine in
    let P : List Mark → Type 0 = λ ms. FollowsFrom node requested (rest_of o place) ms in
    let Q : List Op → Type 0 = λ os. FollowsFrom node requested os (mark ∷ marks_of_client client (drop (i + 1) marks)) in (
      λ h. subst Q left (subst P same (before.0 h)),
      λ h. before.1 (subst P (sym same) (subst Q (sym left) h)),
    )

after_is : (o : Option ScriptClient) (place : ℕ) (op : Op) (next : ℕ) (asked : Bool) → rest_of o place ≡ op ∷ rest_of o (suc place)
    → next ≡ cond asked place (place + 1) → left_after asked op (rest_of o (suc place)) ≡ rest_of o next
after_is o place op next true left moved = sym left ∙ ap (rest_of o) (sym moved)
after_is o place op next false left moved =
    let e : suc place ≡ next = omega (arith, moved) in
    ap (rest_of o) e

-- the mark is the next one of the client's operation
pub take_mark : (node : ℕ) (o : Option ScriptClient) (client : ℕ) (marks : List Mark) (requested : Bool) (place i : ℕ) (mark : Mark) (op : Op) (next : ℕ)
    → i < length marks → mark ≡ get_or marks i mark → client_of_mark mark ≡ client
    → Some op ≡ option_and_then (λ c. slice_get c.ops place) o → IsNextMark node op requested mark
    → next ≡ cond (is_request mark) place (place + 1)
    → SameLeft node o client marks requested place i → SameLeft node o client marks (is_request mark) next (i + 1)
take_mark node o client marks requested place i mark op next less is mine there step moved before =
    let left : rest_of o place ≡ op ∷ rest_of o (suc place) = rest_at o place (suc place) op refl there in
    let at = here node o client marks requested place i mark (op ∷ rest_of o (suc place)) less is mine left before in
    let on = next_on node op (rest_of o (suc place)) requested mark (marks_of_client client (drop (i + 1) marks)) step in
    let same : left_after (is_request mark) op (rest_of o (suc place)) ≡ rest_of o next = after_is o place op next (is_request mark) left moved in
    let Q : List Op → Type 0 = λ os. FollowsFrom node (is_request mark) os (marks_of_client client (drop (i + 1) marks)) in (
      λ h. subst Q same (on.0 (at.0 h)),
      λ h. at.1 (on.1 (subst Q (sym same) h)),
    )

-- there is no operation for the mark
pub no_operation : (node : ℕ) (o : Option ScriptClient) (client : ℕ) (marks : List Mark) (requested : Bool) (place i : ℕ) (mark : Mark)
    → i < length marks → mark ≡ get_or marks i mark → client_of_mark mark ≡ client
    → None ≡ option_and_then (λ c. slice_get c.ops place) o
    → SameLeft node o client marks requested place i → FollowsOps node (rest_of o 0) (marks_of_client client marks) → ⊥
no_operation node o client marks requested place i mark less is mine none before h =
    no_op node requested mark (marks_of_client client (drop (i + 1) marks))
    ((here node o client marks requested place i mark [] less is mine (rest_none o place none) before).0 h)

-- the mark is not the next one of the operation
pub wrong_mark : (node : ℕ) (o : Option ScriptClient) (client : ℕ) (marks : List Mark) (requested : Bool) (place i : ℕ) (mark : Mark) (op : Op)
    → i < length marks → mark ≡ get_or marks i mark → client_of_mark mark ≡ client
    → Some op ≡ option_and_then (λ c. slice_get c.ops place) o → (IsNextMark node op requested mark → ⊥)
    → SameLeft node o client marks requested place i → FollowsOps node (rest_of o 0) (marks_of_client client marks) → ⊥
wrong_mark node o client marks requested place i mark op less is mine there not before h =
    let left : rest_of o place ≡ op ∷ rest_of o (suc place) = rest_at o place (suc place) op refl there in
    not (is_next node op (rest_of o (suc place)) requested mark (marks_of_client client (drop (i + 1) marks))
    ((here node o client marks requested place i mark (op ∷ rest_of o (suc place)) less is mine left before).0 h))

-- after all marks
pub all_marks : (node : ℕ) (o : Option ScriptClient) (client : ℕ) (marks : List Mark) (requested : Bool) (place i : ℕ)
    → length marks ≤ i → SameLeft node o client marks requested place i
    → FollowsOps node (rest_of o 0) (marks_of_client client marks)
    ↔ ((requested ≡ false) × (None ≡ option_and_then (λ c. slice_get c.ops place) o))
all_marks node o client marks requested place i over before =
    let none : drop i marks ≡ [] = drop_all i marks over in
    let same : marks_of_client client (drop i marks) ≡ [] = ap (marks_of_client client) none in
    let P : List Mark → Type 0 = λ ms. FollowsFrom node requested (rest_of o place) ms in
    let end = at_end node requested (rest_of o place) in (
      λ h. let e = end.0 (subst P same (before.0 h)) in (e.0, none_rest o place e.1),
      λ h. before.1 (subst P (sym same) (end.1 (h.0, rest_none o place h.1))),
    )

-- the client that there is
pub of_client : (o : Option ScriptClient) (node : ℕ) (marks : List Mark) → Some node ≡ option_map (λ (c : ScriptClient). c.node) o
    → ((c : ScriptClient) × (o ≡ Some c) × FollowsOps c.node c.ops marks) ↔ FollowsOps node (rest_of o 0) marks
of_client None node marks is = absurd (none-some node (sym is))
of_client (Some d) node marks is =
    let same : node ≡ d.node = same_Some node d.node is in
    let P : ℕ → Type 0 = λ n. FollowsOps n d.ops marks in (
      λ h.
          let e : h.0 ≡ d = same_Some h.0 d (sym h.1) in
          let Q : ScriptClient → Type 0 = λ c. FollowsOps c.node c.ops marks in
          subst P (sym same) (subst Q e h.2),
      λ h. (d, refl, subst P same h),
    )

-- ---- All clients

cons_filter : {X : Type 0} (p : X → Bool) (x : X) (xs : List X) → p x ≡ true → filter p (x ∷ xs) ≡ x ∷ filter p xs
cons_filter p x xs is = ap (λ (b : Bool). cond b (x ∷ filter p xs) (filter p xs)) is

skip_filter : {X : Type 0} (p : X → Bool) (x : X) (xs : List X) → p x ≡ false → filter p (x ∷ xs) ≡ filter p xs
skip_filter p x xs is = ap (λ (b : Bool). cond b (x ∷ filter p xs) (filter p xs)) is

-- what passes is in the filtered list
filter_some : {X : Type 0} (p : X → Bool) (xs : List X) (k : ℕ) (d : X) → k < length xs → p (get_or xs k d) ≡ true → filter p xs ≡ [] → ⊥
filter_some p [] k d less is none = absurd (omega arith)
filter_some p (x ∷ xs) zero d less is none = let e = sym (cons_filter p x xs is) ∙ none in absurd (cc)
filter_some p (x ∷ xs) (suc k) d less is none =
    elim (cases_Bool (p x)) [
      | inl keeps ↦ let e = sym (cons_filter p x xs keeps) ∙ none in absurd (cc)
      | inr drops ↦ filter_some p xs k d (omega arith) is (sym (skip_filter p x xs drops) ∙ none)
    ]

pub filter_none : {X : Type 0} (p : X → Bool) (xs : List X) → ((k : ℕ) (d : X) → k < length xs → p (get_or xs k d) ≡ false) → filter p xs ≡ []
filter_none p [] none = refl
filter_none p (x ∷ xs) none =
    skip_filter p x xs (none 0 x (omega arith)) ∙ filter_none p xs (λ k d less. none (suc k) d (omega (arith, less)))

-- each mark names one of the clients
abbrev pub NamesOf : ℕ → Mark → Type 0
NamesOf count mark = (1 ≤ client_of_mark mark) × (client_of_mark mark ≤ count)

-- a client that is not one of these has no marks
no_marks : (marks : List Mark) (count client : ℕ) → All (NamesOf count) marks → ((1 ≤ client) × (client ≤ count) → ⊥) → marks_of_client client marks ≡ []
no_marks marks count client all other =
    filter_none (λ mark. client_of_mark mark == client) marks (λ k d less.
    let names = all k d less in
    ne_eqb (client_of_mark (get_or marks k d)) client (λ e. other (omega (arith, names.0), omega (arith, names.1))))

pub plan_met : (script : ScriptState) (marks : List Mark) (count : ℕ) → count ≡ length script.clients
    → All (NamesOf count) marks → ((k : ℕ) → k < count → IsFollowed script (k + 1) marks) → MeetsPlan script marks
plan_met script marks count is all each zero = no_marks marks count zero all (λ h. absurd (omega (arith, h.0)))
plan_met script marks count is all each (suc k) =
    let P : Option ScriptClient → Type 0 = λ o. MeetsPlanOf o (marks_of_client (suc k) marks) in
    elim (cases_lt k count) [
      | inl less ↦
          let Q : ℕ → Type 0 = λ n. IsFollowed script n marks in
          let same : k + 1 ≡ suc k = omega arith in
          let h = subst Q same (each k less) in
          subst P (sym h.1) h.2
      | inr over ↦
          let none : slice_get script.clients k ≡ None = slice_get_past script.clients k (omega arith) in
          subst P (sym none) (no_marks marks count (suc k) all (λ h. absurd (omega (arith, h.1))))
    ]

-- of a plan that is met: a client is followed
pub met_followed : (script : ScriptState) (marks : List Mark) (k : ℕ) → k < length script.clients → MeetsPlan script marks → IsFollowed script (k + 1) marks
met_followed script marks k less met =
    elim (slice_get_cases script.clients k).1 [
      | inl h ↦
          let P : Option ScriptClient → Type 0 = λ o. MeetsPlanOf o (marks_of_client (suc k) marks) in
          let Q : ℕ → Type 0 = λ n. IsFollowed script n marks in
          let same : suc k ≡ k + 1 = omega arith in
          let f : IsFollowed script (suc k) marks = (h.0, h.2, subst P h.2 (met (suc k))) in
          subst Q same f
      | inr h ↦ absurd (omega (arith, h.0))
    ]

-- a client that has a mark is one of the script's
named : (script : ScriptState) (marks : List Mark) (client k : ℕ) (d : Mark) → k < length marks → client_of_mark (get_or marks k d) ≡ client
    → MeetsPlanOf (client_at script client) (marks_of_client client marks) → (1 ≤ client) × (client ≤ length script.clients)
named script marks zero k d less is met =
    absurd (filter_some (λ mark. client_of_mark mark == zero) marks k d less (eq-eqb (client_of_mark (get_or marks k d)) zero is) met)
named script marks (suc client) k d less is met =
    elim (cases_lt client (length script.clients)) [
      | inl there ↦ (omega arith, omega arith)
      | inr over ↦
          let P : Option ScriptClient → Type 0 = λ o. MeetsPlanOf o (marks_of_client (suc client) marks) in
          let none : slice_get script.clients client ≡ None = slice_get_past script.clients client over in
          absurd (filter_some (λ mark. client_of_mark mark == suc client) marks k d less (eq-eqb (client_of_mark (get_or marks k d)) (suc client) is) (subst P none met))
    ]

pub met_names : (script : ScriptState) (marks : List Mark) (count : ℕ) → count ≡ length script.clients → MeetsPlan script marks → All (NamesOf count) marks
met_names script marks count is met k d less =
    let n = named script marks (client_of_mark (get_or marks k d)) k d less refl (met (client_of_mark (get_or marks k d))) in
    (n.0, omega (arith, n.1))
