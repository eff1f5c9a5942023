-- What calls make of the tables of clients, and that these stay in step.
use Rattle.std.proofs.Common.{◌≡◌, ◌≢◌, ℕ, Bool, true, false, List, [], ◌∷◌, ◌++◌, Option, Some, None, refl, sym, ap, subst, ◌∙◌, inl, inr}
use Rattle.std.specs.Prelude.{◌&&◌, ◌||◌, not, nat_lt}
use Rattle.std.specs.BTreeMap.{BTreeMap}
use Rattle.std.specs.BTreeSet.{BTreeSet, contains}
use Rattle.std.specs.Ordering.{nat_cmp}
use Rattle.std.proofs.lemmas.Bool.{cases_Bool, cases_eq, and_parts, and_left, and_right, false≢true, not-true, not_from_true, or_parts}
use Rattle.ra_clients.specs.declared.uses.NameUse.{NameUse}
use Rattle.ra_clients.specs.declared.table.Client.{Client}
use Rattle.ra_clients.specs.declared.numbers.Numbers.{Numbers}
use Rattle.ra_clients.specs.Uses.{use_of, new_use, let_in, without}
use Rattle.ra_clients.specs.NumberUse.{is_used, is_before, AreSameNumbers, GivesBack, Keeps, Takes}
use Rattle.ra_clients.specs.Times.{End, ends_at, is_end, Sets, AreSameEnds}
use Rattle.ra_clients.specs.Table.{uses_at, connection_at, is_had, Changes, Disconnects, Joins, AreSameClients}
use Rattle.ra_clients.specs.Roster.{end_if_some, end_of, is_alone, IsInStep, AreInStep, Frees, PartsNumber}
use Rattle.ra_clients.specs.AtNode.{AreOnce}
use Rattle.ra_clients.proofs.NamedUses.{differs, after_end}
use Rattle.ra_clients.proofs.Once.{once_pushed, once_ended}
use Rattle.ra_clients.proofs.InStep.{SameAt, one_changes, seen_at, same_alone, not_had_alone, push_had, no_names, no_connection, stays_had, without_had, ended_at, begun_at, other_pushed, new_end}

-- a number that no client has is not one of before the start
pub not_used_before : (nu : Numbers) (k : ℕ) → is_used nu k ≡ false → is_before nu k ≡ false
not_used_before nu k none = (or_parts (nat_lt k nu.next && not (contains nat_cmp nu.free k)) (contains nat_cmp nu.before k) none).1

connected_not_before : {x : ℕ} (c : Option ℕ) (b : Bool) → c ≡ Some x → (b ≡ true → c ≡ None) → b ≡ false
connected_not_before {x} c b is none =
    elim (cases_Bool b) [
      | inl kept ↦ absurd (let wrong : Some x ≡ None = sym is ∙ none kept in cc)
      | inr isnt ↦ isnt
    ]

-- a connected client has its number
pub connected_had : {x : ℕ} (c : Option ℕ) (us : List NameUse) → c ≡ Some x → is_had c us ≡ true
connected_had c us is = ap (λ (o : Option ℕ). is_had o us) is

connected_not_alone : {x : ℕ} (c : Option ℕ) (us : List NameUse) → c ≡ Some x → is_alone c us ≡ false
connected_not_alone c us is = ap (λ (o : Option ℕ). is_alone o us) is

-- ---- A name ends

module _ (cl mid cl' : BTreeMap ℕ Client) (nu nu' : Numbers) (en en' : BTreeSet End) (le le' : BTreeSet ℕ) (k : ℕ) (name : List ℕ) (all : AreInStep cl nu en le)
    (changes : Changes cl k (without name (uses_at cl k)) mid) (forgets : AreSameClients mid cl') (sets : Sets en k name (end_of name (uses_at cl k)) false en') where
  abbrev us : List NameUse
  us = uses_at cl k

  abbrev ws : List NameUse
  ws = without name us

  abbrev c : Option ℕ
  c = connection_at cl k

  connected : connection_at cl' k ≡ c
  connected = forgets.connections k ∙ changes.connections k

  has : uses_at cl' k ≡ ws
  has = forgets.uses k ∙ changes.here

  ends_here : (time : ℕ) (n : List ℕ) → ends_at en' time k n ≡ is_end time (end_of n ws)
  ends_here =
      ended_at en en' k name us ws (end_of name us) (all k).gives_up (λ n differ. after_end n name us differ) sets refl (ap end_if_some ((all k).once name))

  others : ((j : ℕ) → j ≢ k → is_used nu' j ≡ is_used nu j) → ((j : ℕ) → j ≢ k → is_before nu' j ≡ is_before nu j) → ((j : ℕ) → j ≢ k → contains nat_cmp le' j ≡ contains nat_cmp le j)
      → (j : ℕ) → j ≢ k → SameAt cl cl' nu nu' en en' le le' j
  others used before leaving j apart = record {
    used = used j apart;
    before = before j apart;
    connection = forgets.connections j ∙ changes.connections j;
    uses = forgets.uses j ∙ changes.others j apart;
    ends = λ time n. sets.others time j n (λ same _. apart same);
    leaving = leaving j apart;
  }

  pub ended : (is_last : Bool) → is_last ≡ (is_had c us && not (is_had c ws)) → Frees is_last nu le k nu' le' → AreInStep cl' nu' en' le'
  ended true last frees =
      let none : is_had c ws ≡ false = not-true (is_had c ws) (and_parts (is_had c us) (not (is_had c ws)) (sym last)).1 in
      one_changes cl cl' nu nu' en en' le le' k all
      (seen_at cl cl' nu nu' en en' le le' k c ws connected has (frees.0.unused ∙ sym none) (once_ended us name (all k).once) ends_here
      (frees.1 ∙ sym (and_left (is_alone c ws) (not (is_before nu' k)) (not_had_alone c ws none)))
      (λ kept. absurd (false≢true (sym frees.0.not_kept ∙ kept))))
      (others frees.0.others frees.0.before frees.2)
  ended false last frees =
      let had : is_had c us ≡ is_had c ws = stays_had (is_had c us) (is_had c ws) (sym last) (without_had c name us) in
      one_changes cl cl' nu nu' en en' le le' k all
      (seen_at cl cl' nu nu' en en' le le' k c ws connected has (frees.0.used k ∙ ((all k).used ∙ had)) (once_ended us name (all k).once) ends_here
      (frees.1 k ∙ ((all k).leaves ∙ (λ i. same_alone c us ws had i && not (sym (frees.0.before k) i))))
      (λ kept. (all k).before (sym (frees.0.before k) ∙ kept)))
      (others (λ j _. frees.0.used j) (λ j _. frees.0.before j) (λ j _. frees.1 j))

  pub ended_kept : (is_last : Bool) → is_last ≡ (is_had c us && not (is_had c ws)) → Frees is_last nu le k nu' le' → (j : ℕ) → is_had (connection_at cl' j) (uses_at cl' j) ≡ true
      → is_before nu' j ≡ is_before nu j
  ended_kept true last frees j had =
      elim (cases_eq j k) [
        | inl same ↦
            let none : is_had c ws ≡ false = not-true (is_had c ws) (and_parts (is_had c us) (not (is_had c ws)) (sym last)).1 in
            let still : is_had c ws ≡ true = (λ i. is_had (sym connected i) (sym has i)) ∙ subst (λ (i : ℕ). is_had (connection_at cl' i) (uses_at cl' i) ≡ true) same had in
            absurd (false≢true (sym none ∙ still))
        | inr apart ↦ frees.0.before j apart
      ]
  ended_kept false last frees j had = frees.0.before j

  pub ended_had : (j : ℕ) → is_had (connection_at cl' j) (uses_at cl' j) ≡ true → is_had (connection_at cl j) (uses_at cl j) ≡ true
  ended_had j had =
      elim (cases_eq j k) [
        | inl same ↦
            let still : is_had c ws ≡ true = (λ i. is_had (sym connected i) (sym has i)) ∙ subst (λ (i : ℕ). is_had (connection_at cl' i) (uses_at cl' i) ≡ true) same had in
            subst (λ (i : ℕ). is_had (connection_at cl i) (uses_at cl i) ≡ true) (sym same) (without_had c name us still)
        | inr apart ↦ (λ i. is_had (sym (forgets.connections j ∙ changes.connections j) i) (sym (forgets.uses j ∙ changes.others j apart) i)) ∙ had
      ]

-- ---- A client gets a number

module _ (cl cl' : BTreeMap ℕ Client) (nu nu' : Numbers) (en en' : BTreeSet End) (le : BTreeSet ℕ) (k : ℕ) (name : List ℕ) (all : AreInStep cl nu en le)
    (free : is_used nu k ≡ false) where
  not_had : is_had (connection_at cl k) (uses_at cl k) ≡ false
  not_had = sym (all k).used ∙ free

  pub nothing_yet : uses_at cl k ≡ []
  nothing_yet = no_names (connection_at cl k) (uses_at cl k) not_had

  pub no_end : (time : ℕ) → ends_at en time k name ≡ false
  no_end time = (all k).gives_up time name ∙ ap (λ (us : List NameUse). is_end time (end_of name us)) nothing_yet

  pub enrolled : (d now : ℕ) (until : Option ℕ) → Joins cl k (Some d) (new_use name now until) cl' → Takes nu k nu' → Sets en k name until true en' → AreInStep cl' nu' en' le
  enrolled d now until joins takes sets =
      let v = new_use name now until in
      let none : use_of name (uses_at cl k) ≡ None = ap (use_of name) nothing_yet in
      let isnt = takes.before k ∙ not_used_before nu k free in
      one_changes cl cl' nu nu' en en' le le k all
      (seen_at cl cl' nu nu' en en' le le k (Some d) (v ∷ []) joins.connection_is joins.uses takes.used (once_pushed [] v (λ n. refl) refl)
      (begun_at en en' k name (uses_at cl k) (v ∷ []) until (all k).gives_up (λ n differ. other_pushed n [] v differ ∙ ap (use_of n) (sym nothing_yet)) sets (ap end_if_some none) (new_end name now until [] refl))
      ((all k).leaves ∙ and_left (is_alone (connection_at cl k) (uses_at cl k)) (not (is_before nu k)) (not_had_alone (connection_at cl k) (uses_at cl k) not_had))
      (λ kept. absurd (false≢true (sym isnt ∙ kept))))
      (λ j apart. record {
        used = takes.others j apart;
        before = takes.before j;
        connection = joins.connections j apart;
        uses = joins.others j apart;
        ends = λ time n. sets.others time j n (λ same _. apart same);
        leaving = refl;
      })

-- ---- A connection ends

module _ (cl mid cl' : BTreeMap ℕ Client) (nu nu' : Numbers) (en : BTreeSet End) (le le' : BTreeSet ℕ) (k d : ℕ) (all : AreInStep cl nu en le)
    (connected : connection_at cl k ≡ Some d) (leaves : Disconnects cl k mid) (forgets : AreSameClients mid cl') where
  parted_others : ((j : ℕ) → j ≢ k → is_used nu' j ≡ is_used nu j) → ((j : ℕ) → j ≢ k → is_before nu' j ≡ is_before nu j) → ((j : ℕ) → j ≢ k → contains nat_cmp le' j ≡ contains nat_cmp le j)
      → (j : ℕ) → j ≢ k → SameAt cl cl' nu nu' en en le le' j
  parted_others used before leaving j apart = record {
    used = used j apart;
    before = before j apart;
    connection = forgets.connections j ∙ leaves.others j apart;
    uses = forgets.uses j ∙ leaves.uses j;
    ends = λ time n. refl;
    leaving = leaving j apart;
  }

  was_new : is_before nu k ≡ false
  was_new = connected_not_before (connection_at cl k) (is_before nu k) connected (all k).before

  gone : connection_at cl' k ≡ None
  gone = forgets.connections k ∙ leaves.here

  has_still : uses_at cl' k ≡ uses_at cl k
  has_still = forgets.uses k ∙ leaves.uses k

  pub parted : (has_names : Bool) (us : List NameUse) → uses_at cl k ≡ us → has_names ≡ is_alone None us → PartsNumber has_names nu le k nu' le' → AreInStep cl' nu' en le'
  parted true [] is some parts = absurd (false≢true (sym some))
  parted true (u ∷ us) is some parts =
      one_changes cl cl' nu nu' en en le le' k all
      (seen_at cl cl' nu nu' en en le le' k None (u ∷ us) gone (has_still ∙ is) (parts.0.used k ∙ ((all k).used ∙ connected_had (connection_at cl k) (uses_at cl k) connected))
      (subst (λ (ws : List NameUse). AreOnce ws) is (all k).once)
      (λ time n. (all k).gives_up time n ∙ ap (λ (ws : List NameUse). is_end time (end_of n ws)) is)
      (parts.1 ∙ sym (ap not (parts.0.before k ∙ was_new)))
      (λ kept. refl))
      (parted_others (λ j _. parts.0.used j) (λ j _. parts.0.before j) parts.2)
  parted false [] is none parts =
      one_changes cl cl' nu nu' en en le le' k all
      (seen_at cl cl' nu nu' en en le le' k None [] gone (has_still ∙ is) parts.0.unused (λ n. refl)
      (λ time n. (all k).gives_up time n ∙ ap (λ (ws : List NameUse). is_end time (end_of n ws)) is)
      (parts.1 k ∙ ((all k).leaves ∙ and_left (is_alone (connection_at cl k) (uses_at cl k)) (not (is_before nu k)) (connected_not_alone (connection_at cl k) (uses_at cl k) connected)))
      (λ kept. refl))
      (parted_others parts.0.others parts.0.before (λ j _. parts.1 j))
  parted false (u ∷ vs) is none parts = absurd (false≢true none)

  pub parted_kept : (has_names : Bool) (us : List NameUse) → uses_at cl k ≡ us → has_names ≡ is_alone None us → PartsNumber has_names nu le k nu' le'
      → (j : ℕ) → is_had (connection_at cl' j) (uses_at cl' j) ≡ true → is_before nu' j ≡ is_before nu j
  parted_kept true vs is some parts j had = parts.0.before j
  parted_kept false [] is some parts j had =
      elim (cases_eq j k) [
        | inl same ↦
            let still : is_had None [] ≡ true = (λ i. is_had (sym gone i) (sym (has_still ∙ is) i)) ∙ subst (λ (i : ℕ). is_had (connection_at cl' i) (uses_at cl' i) ≡ true) same had in
            absurd (false≢true still)
        | inr apart ↦ parts.0.before j apart
      ]
  parted_kept false (u ∷ vs) is some parts j had = absurd (false≢true some)

  pub parted_had : (j : ℕ) → is_had (connection_at cl' j) (uses_at cl' j) ≡ true → is_had (connection_at cl j) (uses_at cl j) ≡ true
  parted_had j had =
      elim (cases_eq j k) [
        | inl same ↦ subst (λ (i : ℕ). is_had (connection_at cl i) (uses_at cl i) ≡ true) (sym same) (connected_had (connection_at cl k) (uses_at cl k) connected)
        | inr apart ↦ (λ i. is_had (sym (forgets.connections j ∙ leaves.others j apart) i) (sym (forgets.uses j ∙ leaves.uses j) i)) ∙ had
      ]

-- ---- A client of before the start

module _ (cl cl' : BTreeMap ℕ Client) (nu nu' : Numbers) (en : BTreeSet End) (le le' : BTreeSet ℕ) (k : ℕ) (name : List ℕ) (now : ℕ) (all : AreInStep cl nu en le)
    (alone : connection_at cl k ≡ None) (new_name : use_of name (uses_at cl k) ≡ None) (changes : Changes cl k (uses_at cl k ++ new_use name now None ∷ []) cl')
    (keeps : Keeps nu k nu') (leaves : contains nat_cmp le' k ≡ false) (left : (j : ℕ) → j ≢ k → contains nat_cmp le' j ≡ contains nat_cmp le j)
    (sets : Sets en k name None true en) where
  pub recalled : AreInStep cl' nu' en le'
  recalled =
      let us = uses_at cl k in
      let v = new_use name now None in
      one_changes cl cl' nu nu' en en le le' k all
      (seen_at cl cl' nu nu' en en le le' k (connection_at cl k) (us ++ v ∷ []) (changes.connections k) changes.here (keeps.used ∙ sym (push_had (connection_at cl k) us v))
      (once_pushed us v (all k).once new_name)
      (begun_at en en k name us (us ++ v ∷ []) None (all k).gives_up (λ n differ. other_pushed n us v differ) sets (ap end_if_some new_name) (new_end name now None us new_name))
      (leaves ∙ sym (and_right (is_alone (connection_at cl k) (us ++ v ∷ [])) (not (is_before nu' k)) (not_from_true (is_before nu' k) keeps.is_kept)))
      (λ kept. alone))
      (λ j apart. record {
        used = keeps.others j apart;
        before = keeps.before j apart;
        connection = changes.connections j;
        uses = changes.others j apart;
        ends = λ time n. refl;
        leaving = left j apart;
      })
