-- The tables of clients stay in step when one client changes.
use Rattle.std.proofs.Common.{◌≡◌, ◌≢◌, ℕ, Bool, true, false, List, [], ◌∷◌, ◌++◌, Option, Some, None, refl, sym, ap, subst, ◌∙◌, inl, inr}
use Rattle.std.specs.Prelude.{◌&&◌, ◌||◌, not}
use Rattle.std.specs.Str.{bytes_eq}
use Rattle.std.specs.BTreeMap.{BTreeMap}
use Rattle.std.specs.BTreeSet.{BTreeSet, contains}
use Rattle.std.specs.Ordering.{nat_cmp}
use Rattle.std.proofs.lemmas.Bool.{cases_Bool, cases_eq, and_parts, and_cases, and_right, and_from, false≢true, not-true, not-false, not_from_true, or_parts}
use Rattle.ra_clients.specs.declared.uses.NameUse.{NameUse}
use Rattle.ra_clients.specs.declared.table.Client.{Client}
use Rattle.ra_clients.specs.declared.numbers.Numbers.{Numbers}
use Rattle.ra_clients.specs.Uses.{use_of, new_use, held_use, let_in, without}
use Rattle.ra_clients.specs.NumberUse.{is_used, is_before, AreSameNumbers, GivesBack, Keeps, Takes}
use Rattle.ra_clients.specs.Times.{End, ends_at, is_end, Sets, AreSameEnds}
use Rattle.ra_clients.specs.Table.{uses_at, connection_at, is_had, Changes, Disconnects, Joins, AreSameClients}
use Rattle.ra_clients.specs.Roster.{end_if_some, end_of, is_alone, IsInStep, AreInStep, Frees, PartsNumber}
use Rattle.ra_clients.specs.AtNode.{AreOnce}
use Rattle.ra_clients.proofs.Holding.{not_it}
use Rattle.ra_clients.proofs.NamedUses.{its_own, same_name, differs, after_end, after_entry, after_other_entry}
use Rattle.ra_clients.proofs.Once.{once_pushed, once_ended, once_entered, past}

-- ---- The names of one client

no_cons : {A : Type 0} (x : A) (xs : List A) → x ∷ xs ≡ [] → ⊥
no_cons x xs is = absurd (cc)

pub without_had : (c : Option ℕ) (name : List ℕ) (us : List NameUse) → is_had c (without name us) ≡ true → is_had c us ≡ true
without_had (Some c) name us is = refl
without_had None name [] is = is
without_had None name (u ∷ us) is = refl

pub enter_had : (c : Option ℕ) (name : List ℕ) (now : ℕ) (us : List NameUse) → is_had c (let_in name now us) ≡ is_had c us
enter_had (Some c) name now us = refl
enter_had None name now [] = refl
enter_had None name now (u ∷ us) =
    elim (cases_Bool (bytes_eq u.name name)) [
      | inl equal ↦ rw equal refl
      | inr unequal ↦ rw unequal refl
    ]

alone_is_had : (us : List NameUse) → is_alone None us ≡ is_had None us
alone_is_had [] = refl
alone_is_had (u ∷ us) = refl

-- who is had as before is alone as before
pub same_alone : (c : Option ℕ) (us ws : List NameUse) → is_had c us ≡ is_had c ws → is_alone c us ≡ is_alone c ws
same_alone (Some c) us ws same = refl
same_alone None us ws same = alone_is_had us ∙ (same ∙ sym (alone_is_had ws))

pub not_had_alone : (c : Option ℕ) (us : List NameUse) → is_had c us ≡ false → is_alone c us ≡ false
not_had_alone (Some c) us none = refl
not_had_alone None us none = alone_is_had us ∙ none

pub push_had : (c : Option ℕ) (us : List NameUse) (v : NameUse) → is_had c (us ++ v ∷ []) ≡ true
push_had (Some c) us v = refl
push_had None [] v = refl
push_had None (u ∷ us) v = refl

pub no_names : (c : Option ℕ) (us : List NameUse) → is_had c us ≡ false → us ≡ []
no_names (Some c) us none = absurd (false≢true (sym none))
no_names None [] none = refl
no_names None (u ∷ us) none = absurd (false≢true (sym none))

pub no_connection : (c : Option ℕ) (us : List NameUse) → is_had c us ≡ false → c ≡ None
no_connection (Some c) us none = absurd (false≢true (sym none))
no_connection None us none = refl

-- a client whose last name does not end is had as before
pub stays_had : (a b : Bool) → a && not b ≡ false → (b ≡ true → a ≡ true) → a ≡ b
stays_had true true last was = refl
stays_had true false last was = last
stays_had false true last was = was refl
stays_had false false last was = refl

-- ---- When it gives up

module _ (en en' : BTreeSet End) (k : ℕ) (name : List ℕ) (us ws : List NameUse) (until : Option ℕ)
    (was : (time : ℕ) (n : List ℕ) → ends_at en time k n ≡ is_end time (end_of n us))
    (other : (n : List ℕ) → n ≢ name → use_of n ws ≡ use_of n us) where
  by_name : ((time : ℕ) → ends_at en' time k name ≡ is_end time (end_of name ws))
      → ((time : ℕ) (n : List ℕ) → n ≢ name → ends_at en' time k n ≡ ends_at en time k n)
      → (time : ℕ) (n : List ℕ) → ends_at en' time k n ≡ is_end time (end_of n ws)
  by_name here apart time n =
      elim (cases_Bool (bytes_eq n name)) [
        | inl equal ↦
            let same = same_name n name equal in
            subst (λ (m : List ℕ). ends_at en' time k m ≡ is_end time (end_of m ws)) (sym same) (here time)
        | inr unequal ↦
            let differ = not_it n name unequal in
            apart time n differ ∙ (was time n ∙ ap (λ (o : Option NameUse). is_end time (end_if_some o)) (sym (other n differ)))
      ]

  pub ended_at : Sets en k name until false en' → end_of name us ≡ until → end_of name ws ≡ None
      → (time : ℕ) (n : List ℕ) → ends_at en' time k n ≡ is_end time (end_of n ws)
  ended_at sets its ended = by_name here (λ time n differ. sets.others time k n (λ _ same. differ same))
    where
      here : (time : ℕ) → ends_at en' time k name ≡ is_end time (end_of name ws)
      here time =
          elim (cases_Bool (is_end time until)) [
            | inl is ↦ sets.here time is ∙ sym (ap (is_end time) ended)
            | inr isnt ↦ sets.rest time isnt ∙ (was time name ∙ (ap (is_end time) its ∙ (isnt ∙ sym (ap (is_end time) ended))))
          ]

  pub begun_at : Sets en k name until true en' → end_of name us ≡ None → end_of name ws ≡ until
      → (time : ℕ) (n : List ℕ) → ends_at en' time k n ≡ is_end time (end_of n ws)
  begun_at sets none begun = by_name here (λ time n differ. sets.others time k n (λ _ same. differ same))
    where
      here : (time : ℕ) → ends_at en' time k name ≡ is_end time (end_of name ws)
      here time =
          elim (cases_Bool (is_end time until)) [
            | inl is ↦ sets.here time is ∙ sym (ap (is_end time) begun ∙ is)
            | inr isnt ↦ sets.rest time isnt ∙ (was time name ∙ (ap (is_end time) none ∙ sym (ap (is_end time) begun ∙ isnt)))
          ]

-- who begins to wait for another name gives up this one as before
pub other_pushed : (n : List ℕ) (us : List NameUse) (v : NameUse) → n ≢ v.name → use_of n (us ++ v ∷ []) ≡ use_of n us
other_pushed n [] v differ = rw (differs v.name n (λ same. differ (sym same))) refl
other_pushed n (u ∷ us) v differ =
    elim (cases_Bool (bytes_eq u.name n)) [
      | inl equal ↦ rw equal refl
      | inr unequal ↦ rw unequal (other_pushed n us v differ)
    ]

-- a new name has the end with which it began
pub new_end : (name : List ℕ) (now : ℕ) (until : Option ℕ) (us : List NameUse) → use_of name us ≡ None → end_of name (us ++ new_use name now until ∷ []) ≡ until
new_end name now until us none = ap end_if_some (past name us (new_use name now until ∷ []) none ∙ its_use)
  where
    its_use : use_of name (new_use name now until ∷ []) ≡ Some (new_use name now until)
    its_use = rw (its_own name) refl

-- ---- One client

-- what is seen of this client stays
pub record SameAt (cl cl' : BTreeMap ℕ Client) (nu nu' : Numbers) (en en' : BTreeSet End) (le le' : BTreeSet ℕ) (k : ℕ) : Type 0 where
  pub used : is_used nu' k ≡ is_used nu k
  pub before : is_before nu' k ≡ is_before nu k
  pub connection : connection_at cl' k ≡ connection_at cl k
  pub uses : uses_at cl' k ≡ uses_at cl k
  pub ends : (time : ℕ) (n : List ℕ) → ends_at en' time k n ≡ ends_at en time k n
  pub leaving : contains nat_cmp le' k ≡ contains nat_cmp le k

module _ (cl cl' : BTreeMap ℕ Client) (nu nu' : Numbers) (en en' : BTreeSet End) (le le' : BTreeSet ℕ) where
  pub same_at : (k : ℕ) → SameAt cl cl' nu nu' en en' le le' k → IsInStep cl nu en le k → IsInStep cl' nu' en' le' k
  same_at k s is = record {
    used = s.used ∙ (is.used ∙ (λ i. is_had (sym s.connection i) (sym s.uses i)));
    once = subst (λ (us : List NameUse). AreOnce us) (sym s.uses) is.once;
    gives_up = λ time n. s.ends time n ∙ (is.gives_up time n ∙ ap (λ (us : List NameUse). is_end time (end_of n us)) (sym s.uses));
    leaves = s.leaving ∙ (is.leaves ∙ (λ i. is_alone (sym s.connection i) (sym s.uses i) && not (sym s.before i)));
    before = λ kept. s.connection ∙ is.before (sym s.before ∙ kept);
  }

  -- this client is in step again, and the others stay
  pub one_changes : (k : ℕ) → AreInStep cl nu en le → IsInStep cl' nu' en' le' k → ((j : ℕ) → j ≢ k → SameAt cl cl' nu nu' en en' le le' j)
      → AreInStep cl' nu' en' le'
  one_changes k all here others j =
      elim (cases_eq j k) [
        | inl same ↦ subst (λ (i : ℕ). IsInStep cl' nu' en' le' i) (sym same) here
        | inr apart ↦ same_at j (others j apart) (all j)
      ]

  -- a client with this connection and these names is in step
  pub seen_at : (k : ℕ) (c : Option ℕ) (ws : List NameUse) → connection_at cl' k ≡ c → uses_at cl' k ≡ ws → is_used nu' k ≡ is_had c ws → AreOnce ws
      → ((time : ℕ) (n : List ℕ) → ends_at en' time k n ≡ is_end time (end_of n ws)) → contains nat_cmp le' k ≡ (is_alone c ws && not (is_before nu' k))
      → (is_before nu' k ≡ true → c ≡ None) → IsInStep cl' nu' en' le' k
  seen_at k c ws connected has used once ends leaves before = record {
    used = used ∙ (λ i. is_had (sym connected i) (sym has i));
    once = subst (λ (us : List NameUse). AreOnce us) (sym has) once;
    gives_up = λ time n. ends time n ∙ ap (λ (us : List NameUse). is_end time (end_of n us)) (sym has);
    leaves = leaves ∙ (λ i. is_alone (sym connected i) (sym has i) && not (is_before nu' k));
    before = λ kept. connected ∙ before kept;
  }

-- ---- Calls

module _ (cl cl' : BTreeMap ℕ Client) (nu : Numbers) (en en' : BTreeSet End) (le : BTreeSet ℕ) (k : ℕ) (name : List ℕ) (all : AreInStep cl nu en le) where
  same_others : ((j : ℕ) → j ≢ k → uses_at cl' j ≡ uses_at cl j) → ((j : ℕ) → connection_at cl' j ≡ connection_at cl j)
      → ((time j : ℕ) (n : List ℕ) → (j ≡ k → n ≡ name → ⊥) → ends_at en' time j n ≡ ends_at en time j n)
      → (j : ℕ) → j ≢ k → SameAt cl cl' nu nu en en' le le j
  same_others uses connections ends j apart = record {
    used = refl;
    before = refl;
    connection = connections j;
    uses = uses j apart;
    ends = λ time n. ends time j n (λ same _. apart same);
    leaving = refl;
  }

  -- a client is let in
  pub entered : (u : NameUse) (now : ℕ) → use_of name (uses_at cl k) ≡ Some u → Changes cl k (let_in name now (uses_at cl k)) cl'
      → Sets en k name (end_of name (uses_at cl k)) false en' → AreInStep cl' nu en' le
  entered u now has changes sets =
      let is = all k in
      let us = uses_at cl k in
      let ws = let_in name now us in
      let had = sym (enter_had (connection_at cl k) name now us) in
      let ended : end_of name ws ≡ None = ap end_if_some (after_entry name now us u has) in
      one_changes cl cl' nu nu en en' le le k all
      (seen_at cl cl' nu nu en en' le le k (connection_at cl k) ws (changes.connections k) changes.here (is.used ∙ had) (once_entered us name now is.once)
      (ended_at en en' k name us ws (end_of name us) is.gives_up (λ n differ. after_other_entry n name now us differ) sets refl ended)
      (is.leaves ∙ ap (λ (b : Bool). b && not (is_before nu k)) (same_alone (connection_at cl k) us ws had))
      is.before)
      (same_others changes.others changes.connections sets.others)

  -- a client with a connection begins to wait
  pub begun : (c now : ℕ) (until : Option ℕ) → connection_at cl k ≡ Some c → use_of name (uses_at cl k) ≡ None
      → Changes cl k (uses_at cl k ++ new_use name now until ∷ []) cl' → Sets en k name until true en' → AreInStep cl' nu en' le
  begun c now until connected none changes sets =
      let is = all k in
      let us = uses_at cl k in
      let v = new_use name now until in
      let ws = us ++ v ∷ [] in
      let had : is_had (connection_at cl k) us ≡ is_had (connection_at cl k) ws = ap (λ (o : Option ℕ). is_had o us) connected ∙ sym (push_had (connection_at cl k) us v) in
      one_changes cl cl' nu nu en en' le le k all
      (seen_at cl cl' nu nu en en' le le k (connection_at cl k) ws (changes.connections k) changes.here (is.used ∙ had) (once_pushed us v is.once none)
      (begun_at en en' k name us ws until is.gives_up (λ n differ. other_pushed n us v differ) sets (ap end_if_some none) (new_end name now until us none))
      (is.leaves ∙ ap (λ (b : Bool). b && not (is_before nu k)) (same_alone (connection_at cl k) us ws had))
      is.before)
      (same_others changes.others changes.connections sets.others)

-- what was begun is taken back
module _ (en mid en' : BTreeSet End) (k : ℕ) (name : List ℕ) (until : Option ℕ) where
  pub taken_back : Sets en k name until true mid → Sets mid k name until false en' → ((time : ℕ) → ends_at en time k name ≡ false) → AreSameEnds en en'
  taken_back added dropped none time j n =
      elim (cases_eq j k) [
        | inl same ↦
            elim (cases_Bool (bytes_eq n name)) [
              | inl equal ↦
                  let its = same_name n name equal in
                  let here : ends_at en' time k name ≡ ends_at en time k name =
                  elim (cases_Bool (is_end time until)) [
                    | inl is ↦ dropped.here time is ∙ sym (none time)
                    | inr isnt ↦ dropped.rest time isnt ∙ added.rest time isnt
                  ] in
                  (λ i. ends_at en' time (same i) (its i)) ∙ (here ∙ (λ i. ends_at en time (sym same i) (sym its i)))
              | inr unequal ↦
                  let differ = not_it n name unequal in
                  dropped.others time j n (λ _ same_one. differ same_one) ∙ added.others time j n (λ _ same_one. differ same_one)
            ]
        | inr apart ↦ dropped.others time j n (λ same _. apart same) ∙ added.others time j n (λ same _. apart same)
      ]

-- nothing has changed
module _ (cl cl' : BTreeMap ℕ Client) (nu nu' : Numbers) (en en' : BTreeSet End) (le le' : BTreeSet ℕ) where
  pub all_same : AreInStep cl nu en le → AreSameClients cl cl' → AreSameNumbers nu nu' → AreSameEnds en en' → ((k : ℕ) → contains nat_cmp le' k ≡ contains nat_cmp le k)
      → AreInStep cl' nu' en' le'
  all_same all clients numbers ends leaving k =
      same_at cl cl' nu nu' en en' le le' k
      (record {
        used = numbers.used k;
        before = numbers.before k;
        connection = clients.connections k;
        uses = clients.uses k;
        ends = λ time n. ends time k n;
        leaving = leaving k;
      })
      (all k)
