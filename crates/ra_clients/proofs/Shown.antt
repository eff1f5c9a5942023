-- What the tables show after a change.
use Rattle.std.proofs.Common.{◌≡◌, ◌≢◌, ℕ, ◌+◌, ◌-◌, ◌<◌, ◌≤◌, Bool, true, false, cond, List, [], ◌∷◌, ◌++◌, Option, Some, None, refl, sym, ap, subst, ◌∙◌, inl, inr, arith, is_some}
use Rattle.std.specs.Prelude.{◌==◌, ◌&&◌, ◌||◌, not}
use Rattle.std.specs.BTreeMap.{BTreeMap, btree_map_len, get}
use Rattle.std.specs.BTreeSet.{BTreeSet, contains}
use Rattle.std.specs.Ordering.{nat_cmp}
use Rattle.std.proofs.lemmas.Bool.{cases_Bool, cases_eq, cond-true, cond-false, eq-eqb, ne_eqb, false≢true, or_from, or_left, or_right, not_from_true, and_left}
use Rattle.ra_host_text.specs.declared.answer.Answer.{Answer}
use Rattle.ra_host_text.specs.declared.answer.Answer.TheVariants.{Granted, Refused, Timeout, Unlocked}
use Rattle.ra_host_text.specs.declared.answer.Refusal.{Refusal}
use Rattle.ra_host_text.specs.declared.answer.Refusal.TheVariants.{NotHeld}
use Rattle.ra_book.specs.declared.book.event.BookKind.{BookKind}
use Rattle.ra_book.specs.declared.book.event.BookKind.TheVariants.{Cancel}
use Rattle.ra_clients.specs.declared.uses.NameUse.{NameUse}
use Rattle.ra_clients.specs.declared.uses.Standing.{Standing}
use Rattle.ra_clients.specs.declared.uses.Standing.TheVariants.{Waits, Holds}
use Rattle.ra_clients.specs.declared.roster.Roster.{Roster}
use Rattle.ra_clients.specs.Uses.{use_of, until_of, waits_for, new_use, let_in, without}
use Rattle.ra_clients.specs.Clients.{Limits, Clients, Turn, Turns, IsOverdue, IsLeaving, with_uses, enters, takes_back, silent, tells, told, ends, unlocks, unlocks_as, unlocks_use, given_back, times_out, gives_back}
use Rattle.ra_clients.specs.Clients.Event.{Give_up, Give_back}
use Rattle.ra_clients.specs.Table.{uses_at, connection_at, is_had}
use Rattle.ra_clients.specs.Roster.{end_if_some, end_of}
use Rattle.ra_clients.specs.RosterUse.{uses_of, connection_of, has, is_before, is_kept, KeepsBefore, Alters, Stays, Recalls, IsDue, NoneIsDue, Leaves, NoneLeaves}
use Rattle.ra_clients.specs.Results.{told_by}
use Rattle.ra_clients.specs.Shown.{AreShown, IsTurn, told_tells, had, left}
use Rattle.ra_clients.proofs.Holding.{at_other, at_same}
use Rattle.ra_clients.proofs.NamedUses.{none_some}
use Rattle.ra_clients.proofs.Once.{stays}

-- it is the same turn
pub as_turn : (P : Clients → Type 0) (t u : Turn) (tells : List (ℕ × Answer)) (does : Option BookKind) → t ≡ u → IsTurn P u tells does → IsTurn P t tells does
as_turn P t u tells does same is = subst (λ (x : Turn). IsTurn P x tells does) (sym same) is

pub told_same : (c : Option ℕ) (answer : Answer) → told c answer ≡ told_tells (told_by c) answer
told_same None answer = refl
told_same (Some c) answer = refl

-- a name that changes to what it was does not change
pub unaltered : (old new : Roster) (number : ℕ) → Alters old number (uses_of old number) new → Stays old new
unaltered old new number alters = record {
  clients = record {
    uses = λ k.
        elim (cases_eq k number) [
          | inl same ↦ ap (uses_of new) same ∙ (alters.clients.here ∙ ap (uses_of old) (sym same))
          | inr apart ↦ alters.clients.others k apart
        ];
    connections = alters.clients.connections;
  };
  before = alters.before;
}

-- who has a name has a number
pub named_had : (name : List ℕ) (c : Option ℕ) (us : List NameUse) (u : NameUse) → use_of name us ≡ Some u → is_had c us ≡ true
named_had name (Some c) us u is = refl
named_had name None [] u is = absurd (none_some u is)
named_had name None (x ∷ us) u is = refl

pub named_some : (name : List ℕ) (us : List NameUse) (u : NameUse) → use_of name us ≡ Some u → us ≢ []
named_some name us u is none = none_some u (sym (ap (use_of name) none) ∙ is)

-- whoever gives a name up at this time waits for it until then
pub end_found : (o : Option NameUse) (until : ℕ) → end_if_some o ≡ Some until → (u : NameUse) × (o ≡ Some u) × (u.standing ≡ Waits (Some until))
end_found None until is = absurd (none_some until is)
end_found (Some u) until is = (u, refl, of_standing u.standing is)
  where
    of_standing : (st : Standing) → until_of st ≡ Some until → st ≡ Waits (Some until)
    of_standing (Waits o) its = ap (λ (x : Option ℕ). Waits x) its
    of_standing Holds its = absurd (none_some until its)

module _ (now : ℕ) (number_of : BTreeMap ℕ ℕ) (closed : BTreeSet ℕ) (old new : Roster) (released : Bool) (s : Clients)
    (shows : AreShown now number_of closed old released s) where
  kept_still : KeepsBefore old new → (k : ℕ) → has new k ≡ true → s.is_kept k ≡ is_kept new released k
  kept_still before k had = shows.kept k (before.had k had) ∙ ap (λ (b : Bool). not released && b) (sym (before.before k had))

  pub altered : (number : ℕ) (us vs : List NameUse) → us ≡ vs → Alters old number us new → AreShown now number_of closed new released (with_uses s number vs)
  altered number us vs same alters = record {
    now_is = shows.now_is;
    numbers = shows.numbers;
    are_closed = shows.are_closed;
    connections = λ k. shows.connections k ∙ sym (alters.clients.connections k);
    uses = λ k.
        elim (cases_eq k number) [
          | inl here ↦ at_same s number k vs here ∙ (sym same ∙ (sym alters.clients.here ∙ ap (uses_of new) (sym here)))
          | inr apart ↦ at_other s number k vs apart ∙ (shows.uses k ∙ sym (alters.clients.others k apart))
        ];
    kept = kept_still alters.before;
    count_is = shows.count_is;
  }

  pub stayed : Stays old new → AreShown now number_of closed new released s
  stayed stays = record {
    now_is = shows.now_is;
    numbers = shows.numbers;
    are_closed = shows.are_closed;
    connections = λ k. shows.connections k ∙ sym (stays.clients.connections k);
    uses = λ k. shows.uses k ∙ sym (stays.clients.uses k);
    kept = kept_still stays.before;
    count_is = shows.count_is;
  }

  module _ (number : ℕ) (name : List ℕ) where
    waits_as : waits_for name (s.uses_of number) ≡ waits_for name (uses_of old number)
    waits_as = ap (waits_for name) (shows.uses number)

    -- ---- The client is let in

    module _ (seq node : ℕ) where
      pub let_in_now : waits_for name (uses_of old number) ≡ true → Alters old number (let_in name now (uses_of old number)) new
          → IsTurn (λ t. AreShown now number_of closed new released t) (enters s number name seq node) (told_tells (told_by (connection_of old number)) (Granted name seq node)) None
      let_in_now waited alters =
          as_turn (λ t. AreShown now number_of closed new released t) (enters s number name seq node)
          (record {
            clients = with_uses s number (let_in name s.now (s.uses_of number));
            tells = told (s.connection_of number) (Granted name seq node);
            does = None;
            closes = false;
          })
          (told_tells (told_by (connection_of old number)) (Granted name seq node))
          None
          (cond-true (waits_for name (s.uses_of number)) _ (silent s) (waits_as ∙ waited))
          (record {
            clients = altered number (let_in name now (uses_of old number)) (let_in name s.now (s.uses_of number)) (λ i. let_in name (sym shows.now_is i) (sym (shows.uses number) i)) alters;
            tells_are = ap (λ (o : Option ℕ). told o (Granted name seq node)) (shows.connections number) ∙ told_same (connection_of old number) (Granted name seq node);
            does_is = refl;
            closes_not = refl;
          })

      pub not_let_in : waits_for name (uses_of old number) ≡ false → Stays old new → IsTurn (λ t. AreShown now number_of closed new released t) (enters s number name seq node) [] None
      not_let_in none stays =
          as_turn (λ t. AreShown now number_of closed new released t) (enters s number name seq node) (silent s) [] None
          (cond-false (waits_for name (s.uses_of number)) _ (silent s) (waits_as ∙ none))
          (record { clients = stayed stays; tells_are = refl; does_is = refl; closes_not = refl })

    -- ---- Its node refuses the name

    module _ (why : Refusal) where
      pub taken_back : waits_for name (uses_of old number) ≡ true → Alters old number (without name (uses_of old number)) new
          → IsTurn (λ t. AreShown now number_of closed new released t) (takes_back s number name why) (told_tells (told_by (connection_of old number)) (Refused name why)) None
      taken_back waited alters =
          as_turn (λ t. AreShown now number_of closed new released t) (takes_back s number name why)
          (record {
            clients = with_uses s number (without name (s.uses_of number));
            tells = told (s.connection_of number) (Refused name why);
            does = None;
            closes = false;
          })
          (told_tells (told_by (connection_of old number)) (Refused name why))
          None
          (cond-true (waits_for name (s.uses_of number)) _ (silent s) (waits_as ∙ waited))
          (record {
            clients = altered number (without name (uses_of old number)) (without name (s.uses_of number)) (ap (without name) (sym (shows.uses number))) alters;
            tells_are = ap (λ (o : Option ℕ). told o (Refused name why)) (shows.connections number) ∙ told_same (connection_of old number) (Refused name why);
            does_is = refl;
            closes_not = refl;
          })

      pub not_taken_back : waits_for name (uses_of old number) ≡ false → Stays old new → IsTurn (λ t. AreShown now number_of closed new released t) (takes_back s number name why) [] None
      not_taken_back none stays =
          as_turn (λ t. AreShown now number_of closed new released t) (takes_back s number name why) (silent s) [] None
          (cond-false (waits_for name (s.uses_of number)) _ (silent s) (waits_as ∙ none))
          (record { clients = stayed stays; tells_are = refl; does_is = refl; closes_not = refl })

    -- ---- A name ends

    -- the client has no such name
    pub not_held : (client : ℕ) → s.is_closed client ≡ false → s.number_of client ≡ Some number → use_of name (uses_of old number) ≡ None → Alters old number (without name (uses_of old number)) new
        → IsTurn (λ t. AreShown now number_of closed new released t) (unlocks s client name) ((client, Refused name NotHeld) ∷ []) None
    not_held client isnt is none alters =
        let same = subst (λ (us : List NameUse). Alters old number us new) (stays name (uses_of old number) none) alters in
        as_turn (λ t. AreShown now number_of closed new released t) (unlocks s client name) (tells s client (Refused name NotHeld)) ((client, Refused name NotHeld) ∷ []) None
        (cond-false (s.is_closed client) (silent s) (unlocks_as (s.number_of client) s client name) isnt
        ∙ (ap (λ (o : Option ℕ). unlocks_as o s client name) is ∙ ap (λ (o : Option NameUse). unlocks_use o s client number name) (ap (use_of name) (shows.uses number) ∙ none)))
        (record { clients = stayed (unaltered old new number same); tells_are = refl; does_is = refl; closes_not = refl })

    pub ended : (standing : Standing) (tells : List (ℕ × Answer)) → Alters old number (without name (uses_of old number)) new
        → IsTurn (λ t. AreShown now number_of closed new released t) (ends s number name standing tells) tells (Some (given_back number name standing))
    ended standing tells alters = record {
      clients = altered number (without name (uses_of old number)) (without name (s.uses_of number)) (ap (without name) (sym (shows.uses number))) alters;
      tells_are = refl;
      does_is = refl;
      closes_not = refl;
    }

    pub given_up : (l : Limits) → IsDue old now number name → Alters old number (without name (uses_of old number)) new
        → (t : Turn) × Turns l s (Give_up number name) t
        × IsTurn (λ t. AreShown now number_of closed new released t) t (told (connection_of old number) (Timeout name)) (Some (Cancel number name))
    given_up l due alters =
        let found = end_found (use_of name (uses_of old number)) due.until due.is in
        let u = found.0 in
        let overdue : IsOverdue s number name = record {
          waiting = u;
          is = ap (use_of name) (shows.uses number) ∙ found.1;
          until = due.until;
          waits = found.2;
          past = subst (λ (n : ℕ). due.until ≤ n) (sym shows.now_is) due.past;
        } in
        let tells = told (s.connection_of number) (Timeout name) in
        let turn = ended u.standing tells alters in (
          times_out s number name u.standing,
          (overdue, refl),
          record {
            clients = turn.clients;
            tells_are = ap (λ (o : Option ℕ). told o (Timeout name)) (shows.connections number);
            does_is = ap (λ (st : Standing). Some (given_back number name st)) found.2;
            closes_not = refl;
          },
        )

    pub given_back_now : (l : Limits) (u : NameUse) → u.name ≡ name → Leaves old released number u → Alters old number (without name (uses_of old number)) new
        → (t : Turn) × Turns l s (Give_back number name) t × IsTurn (λ t. AreShown now number_of closed new released t) t [] (Some (given_back number name u.standing))
    given_back_now l u its leaves alters =
        let has_it : use_of name (uses_of old number) ≡ Some u = ap (λ (n : List ℕ). use_of n (uses_of old number)) (sym its) ∙ leaves.is in
        let leaving : IsLeaving s number = record {
          no_connection = shows.connections number ∙ leaves.no_connection;
          not_kept = shows.kept number (named_had name (connection_of old number) (uses_of old number) u has_it) ∙ leaves.not_kept;
        } in
        (gives_back s number name u.standing, (leaving, (u, ap (use_of name) (shows.uses number) ∙ has_it, refl)), ended u.standing [] alters)

-- ---- Nothing is left to do

module _ (now : ℕ) (number_of : BTreeMap ℕ ℕ) (closed : BTreeSet ℕ) (old : Roster) (released : Bool) (s : Clients) (k : ℕ) (name : List ℕ)
    (shows : AreShown now number_of closed old released s) where
  pub nobody_overdue : NoneIsDue old now → IsOverdue s k name → ⊥
  nobody_overdue none overdue =
      let has_it : use_of name (uses_of old k) ≡ Some overdue.waiting = ap (use_of name) (sym (shows.uses k)) ∙ overdue.is in
      let later = none k overdue.until name (ap end_if_some has_it ∙ ap until_of overdue.waits) in
      omega (arith, later, overdue.past, shows.now_is)

  pub nobody_leaves : (u : NameUse) → NoneLeaves old released → IsLeaving s k → use_of name (s.uses_of k) ≡ Some u → ⊥
  nobody_leaves u none leaving is =
      let has_it : use_of name (uses_of old k) ≡ Some u = ap (use_of name) (sym (shows.uses k)) ∙ is in
      let kept = none k (sym (shows.connections k) ∙ leaving.no_connection) (named_some name (uses_of old k) u has_it) in
      false≢true (sym leaving.not_kept ∙ (shows.kept k (named_had name (connection_of old k) (uses_of old k) u has_it) ∙ kept))

-- ---- Before the start

module _ (now : ℕ) (number_of : BTreeMap ℕ ℕ) (closed : BTreeSet ℕ) (old new : Roster) (released : Bool) (s : Clients) (number : ℕ) (name : List ℕ)
    (shows : AreShown now number_of closed old released s) where
  has_either : (is_some (s.connection_of number) || is_some (use_of name (s.uses_of number))) ≡ (is_some (connection_of old number) || is_some (use_of name (uses_of old number)))
  has_either = λ i. is_some (shows.connections number i) || is_some (use_of name (shows.uses number i))

  pub had_before : (is_some (connection_of old number) || is_some (use_of name (uses_of old number))) ≡ true → Stays old new
      → AreShown now number_of closed new released (had (not released) s number name)
  had_before is stays =
      subst (λ (t : Clients). AreShown now number_of closed new released t)
      (sym (cond-true (is_some (s.connection_of number) || is_some (use_of name (s.uses_of number))) s _ (has_either ∙ is)))
      (stayed now number_of closed old new released s shows stays)

  abbrev now_kept : Clients
  now_kept =
      record (with_uses s number (s.uses_of number ++ new_use name s.now None ∷ [])) {
        is_kept = λ j. cond (j == number) (not released) (s.is_kept j);
      }

  and_true : (b : Bool) → b ≡ b && true
  and_true true = refl
  and_true false = refl

  pub had_now : (is_some (connection_of old number) || is_some (use_of name (uses_of old number))) ≡ false → Recalls old number (new_use name now None) new
      → AreShown now number_of closed new released (had (not released) s number name)
  had_now isnt recalls =
      subst (λ (t : Clients). AreShown now number_of closed new released t)
      (sym (cond-false (is_some (s.connection_of number) || is_some (use_of name (s.uses_of number))) s now_kept (has_either ∙ isnt)))
      (record {
        now_is = shows.now_is;
        numbers = shows.numbers;
        are_closed = shows.are_closed;
        connections = λ k. shows.connections k ∙ sym (recalls.clients.connections k);
        uses = λ k.
            elim (cases_eq k number) [
              | inl here ↦
                  at_same s number k (s.uses_of number ++ new_use name s.now None ∷ []) here
                  ∙ ((λ i. shows.uses number i ++ new_use name (shows.now_is i) None ∷ []) ∙ (sym recalls.clients.here ∙ ap (uses_of new) (sym here)))
              | inr apart ↦ at_other s number k (s.uses_of number ++ new_use name s.now None ∷ []) apart ∙ (shows.uses k ∙ sym (recalls.clients.others k apart))
            ];
        kept = kept;
        count_is = shows.count_is;
      })
    where
      kept : (k : ℕ) → has new k ≡ true → now_kept.is_kept k ≡ is_kept new released k
      kept k is =
          elim (cases_eq k number) [
            | inl here ↦
                cond-true (k == number) (not released) (s.is_kept k) (eq-eqb k number here)
                ∙ (and_true (not released) ∙ (λ i. not released && (sym recalls.kept_now ∙ ap (is_before new) (sym here)) i))
            | inr apart ↦
                let was : has old k ≡ true = (λ i. is_had (sym (recalls.clients.connections k) i) (sym (recalls.clients.others k apart) i)) ∙ is in
                cond-false (k == number) (not released) (s.is_kept k) (ne_eqb k number apart)
                ∙ (shows.kept k was ∙ ap (λ (b : Bool). not released && b) (sym (recalls.others k apart)))
          ]

  pub left_it : Alters old number (without name (uses_of old number)) new → AreShown now number_of closed new released (left s number name)
  left_it alters =
      altered now number_of closed old new released s shows number (without name (uses_of old number)) (without name (s.uses_of number)) (ap (without name) (sym (shows.uses number))) alters
