-- How the known clients of a queue follow what comes and goes.
use Rattle.std.proofs.Common.{◌≡◌, ◌≢◌, ◌↔◌, ◌<◌, ◌≤◌, ◌+◌, ℕ, zero, suc, Bool, true, false, cond, ◌||◌, List, [], ◌∷◌, ◌++◌, Any, get_or, length, refl, sym, ap, ◌∙◌, subst, arith}
use Rattle.std.specs.Prelude.{nat_eq, IsTrue}
use Rattle.std.specs.List.{list_any, remove}
use Rattle.std.specs.Map.{lookup, keys_of}
use Rattle.std.specs.Option.{is_some}
use Rattle.std.specs.Result.{result_ok}
use Rattle.std.proofs.Common.{Option, Some, None, Result, Ok, Err, IfOk}
use Rattle.std.specs.Prelude.{IfSome}
use Rattle.std.proofs.lemmas.Bool.{eq-eqb, eqb-true}
use Rattle.std.proofs.lemmas.List.{get_or_default}
use borrow.Author.Count.{below_more}
use Rattle.std.proofs.lemmas.List.Folds.{Any-from_list_any, list_any-from_Any}
use Rattle.ra_node.specs.declared.queued_client.Queued.{Queued}
use Rattle.ra_node.specs.Queue.{AreApart, AreClients}
use Rattle.ra_node.proofs.Distinct.{queues_has, taken_apart}

-- ---- Who is queued, by a test and by a fact

is_queued : (queue : List Queued) (client : ℕ) → list_any (λ x. nat_eq client x.client) queue ≡ true → Any (λ x. x.client ≡ client) queue
is_queued queue client h =
    let a = Any-from_list_any (λ (x : Queued). nat_eq client x.client) queue h in
    (a.0, a.1, a.2, a.3, sym (eqb-true client a.1.client a.4))

has_queued : (queue : List Queued) (client : ℕ) → Any (λ x. x.client ≡ client) queue → list_any (λ x. nat_eq client x.client) queue ≡ true
has_queued queue client a =
    list_any-from_Any (λ (x : Queued). nat_eq client x.client) queue (a.0, a.1, a.2, a.3, eq-eqb client a.1.client (sym a.4))

-- the clients before a place are other ones, and so is the one at it
pub none_more : (queue : List Queued) (place client : ℕ) (here : Queued) → place < length queue → here ≡ get_or queue place here → here.client ≢ client
    → ((k : ℕ) → k < place → (x : Queued) → get_or queue k x ≡ x → x.client ≢ client) → (k : ℕ) → k < place + 1 → (x : Queued) → get_or queue k x ≡ x → x.client ≢ client
none_more queue place client here lt at apart before =
    below_more (λ k. (x : Queued) → get_or queue k x ≡ x → x.client ≢ client) place before
    (λ x is same. apart (ap (λ q. q.client) (at ∙ get_or_default queue place here x lt ∙ is) ∙ same))

-- and after the last place no client is left
pub nowhere : (queue : List Queued) (place client : ℕ) → length queue ≤ place → ((k : ℕ) → k < place → (x : Queued) → get_or queue k x ≡ x → x.client ≢ client)
    → Any (λ x. x.client ≡ client) queue → ⊥
nowhere queue place client end none any = none any.0 (omega (arith, any.2, end)) any.1 any.3 any.4

-- ---- What a map says of its keys

some_or : {X : Type 0} (b : Bool) (x : X) (o : Option X) → is_some (cond b (Some x) o) ≡ (b || is_some o)
some_or true x o = refl
some_or false x o = refl

none_or : {X : Type 0} (b : Bool) (o : Option X) → is_some (cond b None o) ≡ cond b false (is_some o)
none_or true o = refl
none_or false o = refl

-- a map has a value for the keys that it has
pub has_value : {X : Type 0} (test : ℕ → Bool) (entries : List (ℕ × X)) → is_some (lookup test entries) ≡ list_any test (keys_of entries)
has_value test [] = refl
has_value test (e ∷ es) = some_or (test e.0) e.1 (lookup test es) ∙ ap (λ b. test e.0 || b) (has_value test es)

-- the keys after one came
pub one_key_more : {X : Type 0} (old new : List (ℕ × X)) (client : ℕ) (value : X)
    → ((q : ℕ) → lookup (nat_eq q) new ≡ cond (nat_eq client q) (Some value) (lookup (nat_eq q) old))
    → (q : ℕ) → list_any (nat_eq q) (keys_of new) ≡ (nat_eq client q || list_any (nat_eq q) (keys_of old))
one_key_more old new client value updates = λ q.
    sym (has_value (nat_eq q) new) ∙ ap is_some (updates q) ∙ some_or (nat_eq client q) value (lookup (nat_eq q) old)
    ∙ ap (λ b. nat_eq client q || b) (has_value (nat_eq q) old)

-- the keys after one went
pub one_key_less : {X : Type 0} (old new : List (ℕ × X)) (client : ℕ)
    → ((q : ℕ) → lookup (nat_eq q) new ≡ cond (nat_eq client q) None (lookup (nat_eq q) old))
    → (q : ℕ) → list_any (nat_eq q) (keys_of new) ≡ cond (nat_eq client q) false (list_any (nat_eq q) (keys_of old))
one_key_less old new client updates = λ q.
    sym (has_value (nat_eq q) new) ∙ ap is_some (updates q) ∙ none_or (nat_eq client q) (lookup (nat_eq q) old)
    ∙ ap (cond (nat_eq client q) false) (has_value (nat_eq q) old)

-- a look-up among the known clients finds who is queued
pub finds : (known : List ℕ) (queue : List Queued) (client : ℕ) (found : Bool) → AreClients known queue → found ≡ list_any (nat_eq client) known
    → IsTrue found ↔ Any (λ x. x.client ≡ client) queue
finds known queue client found are is =
    let same = is ∙ are client in
    (λ yes. is_queued queue client (sym same ∙ yes), λ any. same ∙ has_queued queue client any)

-- ---- One comes

same_test : (a b : ℕ) → nat_eq a b ≡ nat_eq b a
same_test a b = grind arith

or_swap : (a b c : Bool) → (a || (b || c)) ≡ (b || (a || c))
or_swap true true c = refl
or_swap true false c = refl
or_swap false b c = refl

after_the_last : (q : ℕ) (before : List Queued) (last : Queued)
    → list_any (λ x. nat_eq q x.client) (before ++ last ∷ []) ≡ (nat_eq last.client q || list_any (λ x. nat_eq q x.client) before)
after_the_last q [] last = ap (λ b. b || false) (same_test q last.client)
after_the_last q (x ∷ xs) last =
    ap (λ b. nat_eq q x.client || b) (after_the_last q xs last)
    ∙ or_swap (nat_eq q x.client) (nat_eq last.client q) (list_any (λ (x : Queued). nat_eq q x.client) xs)

pub learned : (known new : List ℕ) (before : List Queued) (last : Queued) → AreClients known before
    → ((q : ℕ) → list_any (nat_eq q) new ≡ (nat_eq last.client q || list_any (nat_eq q) known)) → AreClients new (before ++ last ∷ [])
learned known new before last are more = λ q.
    more q ∙ ap (λ b. nat_eq last.client q || b) (are q) ∙ sym (after_the_last q before last)

-- ---- One goes

none_left : (before : List Queued) (gone : Queued) (after : List Queued) → AreApart (before ++ gone ∷ after) → (b : Bool) → list_any (λ x. nat_eq gone.client x.client) (before ++ after) ≡ b → b ≡ false
none_left before gone after apart false h = refl
none_left before gone after apart true h =
    absurd (taken_apart before gone after apart (queues_has (before ++ after) gone.client (is_queued (before ++ after) gone.client h)))

without : (q : ℕ) (before : List Queued) (gone : Queued) (after : List Queued)
    → list_any (λ x. nat_eq q x.client) (before ++ gone ∷ after) ≡ (nat_eq q gone.client || list_any (λ x. nat_eq q x.client) (before ++ after))
without q [] gone after = refl
without q (x ∷ xs) gone after =
    ap (λ b. nat_eq q x.client || b) (without q xs gone after)
    ∙ or_swap (nat_eq q x.client) (nat_eq q gone.client) (list_any (λ (x : Queued). nat_eq q x.client) (xs ++ after))

neither : (c q : ℕ) (a b : Bool) → a ≡ (nat_eq q c || b) → (c ≡ q → b ≡ false) → cond (nat_eq c q) false a ≡ b
neither c q a b same none = grind arith

pub unlearned : (known new : List ℕ) (before : List Queued) (gone : Queued) (after : List Queued) → AreApart (before ++ gone ∷ after) → AreClients known (before ++ gone ∷ after)
    → ((q : ℕ) → list_any (nat_eq q) new ≡ cond (nat_eq gone.client q) false (list_any (nat_eq q) known)) → AreClients new (before ++ after)
unlearned known new before gone after apart are updates = λ q.
    updates q ∙ neither gone.client q (list_any (nat_eq q) known) (list_any (λ (x : Queued). nat_eq q x.client) (before ++ after)) (are q ∙ without q before gone after)
    (λ e. subst (λ (k : ℕ). list_any (λ (x : Queued). nat_eq k x.client) (before ++ after) ≡ false) e
    (none_left before gone after apart (list_any (λ (x : Queued). nat_eq gone.client x.client) (before ++ after)) refl))

-- the parts of a queue around a place, and what is left without the client there
pub parts_at : (queue : List Queued) (place : ℕ) (x : Queued) → place < length queue → get_or queue place x ≡ x
    → (before : List Queued) × (after : List Queued) × (queue ≡ before ++ x ∷ after) × (remove queue place ≡ before ++ after)
parts_at [] place x lt is = absurd (omega (arith, lt))
parts_at (q ∷ qs) zero x lt is = ([], qs, ap (λ (y : Queued). y ∷ qs) is, refl)
parts_at (q ∷ qs) (suc k) x lt is =
    let rest = parts_at qs k x (omega (arith, lt)) is in
    (q ∷ rest.0, rest.1, ap (λ (xs : List Queued). q ∷ xs) rest.2, ap (λ (xs : List Queued). q ∷ xs) rest.3)

-- ---- All are learned

-- the box that has them, if there was memory for it
pub boxed : {B M E : Type 0} (made : Result B E) (found : Option B) (value : B → M) (P : M → Type 0) (known : M) → IfOk made (λ b. value b ≡ known) → found ≡ result_ok made → P known → IfSome found (λ b. P (value b))
boxed (Ok b) found value P known made found_is h = subst (λ (o : Option _). IfSome o (λ b. P (value b))) (sym found_is) (subst P (sym made) h)
boxed (Err e) found value P known made found_is h = subst (λ (o : Option _). IfSome o (λ b. P (value b))) (sym found_is) tt
