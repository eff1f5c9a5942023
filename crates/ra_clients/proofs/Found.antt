-- What the calls of tables have found.
use Rattle.std.proofs.Common.{◌≡◌, ◌≢◌, ℕ, ◌+◌, ◌<◌, ◌≤◌, Bool, true, false, cond, List, [], ◌∷◌, ◌++◌, Option, Some, None, Result, Ok, Err, refl, sym, ap, subst, ◌∙◌, inl, inr, arith, is_some}
use Rattle.std.specs.Prelude.{◌^◌, MatchOption, IfSome, IfNone, IfOk}
use Rattle.std.specs.Str.{bytes_eq}
use Rattle.std.specs.BTreeMap.{BTreeMap, get}
use Rattle.std.specs.BTreeSet.{BTreeSet, contains}
use Rattle.std.specs.Ordering.{eq_by_cmp, nat_cmp}
use Rattle.std.proofs.lemmas.Bool.{cases_Bool, cases_eq, eqb-true, eq-eqb, false≢true}
use Rattle.std.proofs.lemmas.Map.Lookups.{exact_unsigned}
use Rattle.std.proofs.lemmas.Map.Views.{tells_apart}
use Rattle.ra_clients.specs.declared.uses.NameUse.{NameUse}
use Rattle.ra_clients.specs.declared.table.Client.{Client}
use Rattle.ra_clients.specs.declared.numbers.Numbers.{Numbers}
use Rattle.ra_clients.specs.declared.times.Due.{Due}
use Rattle.ra_clients.specs.declared.roster.Roster.{Roster}
use Rattle.ra_clients.specs.Uses.{use_of, waits_if_some, new_use, without}
use Rattle.ra_clients.specs.NumberUse.{is_used, IsLeastFree, Takes, AreAllUsed}
use Rattle.ra_clients.specs.Times.{ends_at, is_end}
use Rattle.ra_clients.specs.Table.{connection_if_some, uses_at, connection_at, is_had, Changes, AreSameClients}
use Rattle.ra_clients.specs.Roster.{end_of, is_alone}
use Rattle.ra_clients.specs.RosterUse.{NoneIsDue, IsDue}
use Rattle.ra_clients.proofs.NamedUses.{none_some, its_own}
use Rattle.ra_clients.proofs.Numbered.{one_least}

pub is_some_found : (o : Option ℕ) → is_some o ≡ true → (c : ℕ) × (o ≡ Some c)
is_some_found None is = absurd (false≢true is)
is_some_found (Some c) is = (c, refl)

pub waited_found : (o : Option NameUse) → waits_if_some o ≡ true → (u : NameUse) × (o ≡ Some u)
waited_found None is = absurd (false≢true is)
waited_found (Some u) is = (u, refl)

there_if : (o : Option Client) (c : ℕ) → connection_if_some o ≡ Some c → is_some o ≡ true
there_if None c is = absurd (none_some c is)
there_if (Some client) c is = refl

-- a client with a connection is there, so that its names change
pub begun_changes : (cl cl' : BTreeMap ℕ Client) (k c : ℕ) (vs us : List NameUse) (there : Bool) → connection_at cl k ≡ Some c → there ≡ is_some (get nat_cmp cl k)
    → Changes cl k (cond there vs us) cl' → Changes cl k vs cl'
begun_changes cl cl' k c vs us there connected is changes =
    subst (λ (b : Bool). Changes cl k (cond b vs us) cl') (is ∙ there_if (get nat_cmp cl k) c connected) changes

-- the number that is taken is the least that was free
pub taken : (nu nu' : Numbers) (k : ℕ) (o : Option ℕ) → IsLeastFree nu k → k < 2 ^ 32 → IfSome o (λ n. IsLeastFree nu n) → IfSome o (λ n. Takes nu n nu') → IfNone o (AreAllUsed nu)
    → Takes nu k nu'
taken nu nu' k None least low some takes none = absurd (false≢true (sym least.free ∙ none k low))
taken nu nu' k (Some n) least low some takes none = subst (λ (i : ℕ). Takes nu i nu') (one_least nu n k some least) takes

pub has_names_is : (o : Option NameUse) (us : List NameUse) → MatchOption o (us ≡ []) (λ first. use_of first.name us ≡ Some first) → is_some o ≡ is_alone None us
has_names_is None us none = sym (ap (is_alone None) none)
has_names_is (Some u) [] is = absurd (none_some u is)
has_names_is (Some u) (x ∷ us) is = refl

end_is : (o : Option ℕ) (time : ℕ) → is_end time o ≡ true → o ≡ Some time
end_is None time is = absurd (false≢true is)
end_is (Some until) time is = ap (λ (t : ℕ). Some t) (sym (eqb-true time until is))

its_end : (o : Option ℕ) (time : ℕ) → o ≡ Some time → is_end time o ≡ true
its_end o time is = ap (is_end time) is ∙ eq-eqb time time refl

-- whose time is over, by the tables
pub due_is : (r : Roster) (now : ℕ) (o : Option Due)
    → MatchOption o ((until number : ℕ) (name : List ℕ) → ends_at r.ends until number name ≡ true → now < until)
    (λ due. (until : ℕ) × (until ≤ now) × (ends_at r.ends until due.number due.name ≡ true))
    → MatchOption o (NoneIsDue r now) (λ due. IsDue r now due.number due.name)
due_is r now None none = λ k until name is. none until k name ((r.in_step k).gives_up until name ∙ its_end (end_of name (uses_at r.clients k)) until is)
due_is r now (Some due) found = record {
  until = found.0;
  past = found.1;
  is = end_is (end_of due.name (uses_at r.clients due.number)) found.0 (sym ((r.in_step due.number).gives_up found.0 due.name) ∙ found.2);
}

pub num_apart : (a b : ℕ) → (a ≡ b → ⊥) → eq_by_cmp nat_cmp a b ≡ false
num_apart a b other =
    elim (cases_Bool (eq_by_cmp nat_cmp a b)) [
      | inl same ↦ absurd (other (tells_apart exact_unsigned a b same))
      | inr differ ↦ differ
    ]

pub count_more : (o : Option ℕ) (a b : ℕ) → a ≡ b + cond (is_some o) 0 1 → o ≡ None → a ≡ b + 1
count_more o a b is none = is ∙ ap (λ (x : Option ℕ). b + cond (is_some x) 0 1) none

pub if_ok : {T E : Type 0} (r : Result T E) (P Q : T → Type 0) → ((x : T) → P x → Q x) → IfOk r P → IfOk r Q
if_ok (Ok x) P Q f is = f x is
if_ok (Err e) P Q f is = tt

-- a name that is asked for and ends leaves no trace
pushed_off : (name : List ℕ) (now : ℕ) (until : Option ℕ) (us : List NameUse) → use_of name us ≡ None → without name (us ++ new_use name now until ∷ []) ≡ us
pushed_off name now until [] none = rw (its_own name) refl
pushed_off name now until (x ∷ us) none =
    elim (cases_Bool (bytes_eq x.name name)) [
      | inl equal ↦ absurd (some_not x (rw equal at none))
      | inr unequal ↦ rw unequal (ap (λ (ws : List NameUse). x ∷ ws) (pushed_off name now until us (rw unequal at none)))
    ]
  where
    some_not : (u : NameUse) → Some u ≡ None → ⊥
    some_not u is = none_some u (sym is)

pub recalled_off : (cl one two cl' : BTreeMap ℕ Client) (k : ℕ) (name : List ℕ) (now : ℕ) (until : Option ℕ) → use_of name (uses_at cl k) ≡ None
    → Changes cl k (uses_at cl k ++ new_use name now until ∷ []) one → Changes one k (without name (uses_at one k)) two → AreSameClients two cl' → AreSameClients cl cl'
recalled_off cl one two cl' k name now until none first second same = record {
  uses = λ j.
      elim (cases_eq j k) [
        | inl here ↦
            same.uses j
            ∙ (ap (uses_at two) here ∙ (second.here ∙ (ap (without name) first.here ∙ (pushed_off name now until (uses_at cl k) none ∙ ap (uses_at cl) (sym here)))))
        | inr apart ↦ same.uses j ∙ (second.others j apart ∙ first.others j apart)
      ];
  connections = λ j. same.connections j ∙ (second.connections j ∙ first.connections j);
}

-- whoever has a number had it
pub had_same : (cl cl' : BTreeMap ℕ Client) (k : ℕ) → AreSameClients cl cl' → is_had (connection_at cl' k) (uses_at cl' k) ≡ true → is_had (connection_at cl k) (uses_at cl k) ≡ true
had_same cl cl' k same is = (λ i. is_had (sym (same.connections k) i) (sym (same.uses k) i)) ∙ is
