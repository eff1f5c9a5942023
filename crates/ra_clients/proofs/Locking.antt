-- What the tables show after a client has asked for a name, or its connection has ended.
use Rattle.std.proofs.Common.{◌≡◌, ◌≢◌, ℕ, ◌+◌, ◌-◌, ◌<◌, ◌≤◌, Bool, true, false, cond, List, [], ◌∷◌, ◌++◌, length, Option, Some, None, refl, sym, ap, subst, ◌∙◌, inl, inr, arith, is_some}
use Rattle.std.specs.Prelude.{◌==◌, ◌^◌, ◌&&◌, ◌||◌, not, nat_le}
use Rattle.std.specs.BTreeMap.{BTreeMap, btree_map_len, get}
use Rattle.std.specs.BTreeSet.{BTreeSet, contains}
use Rattle.std.specs.Ordering.{nat_cmp}
use Rattle.std.proofs.lemmas.Bool.{cases_Bool, cases_eq, cond-true, cond-false, eq-eqb, ne_eqb, false≢true, or_from, or_left, or_right, le-leb, lt-leb, and_left}
use Rattle.ra_stamp.specs.declared.mode.Mode.{Mode}
use Rattle.ra_host_text.specs.declared.answer.Answer.{Answer}
use Rattle.ra_host_text.specs.declared.answer.Answer.TheVariants.{Refused}
use Rattle.ra_host_text.specs.declared.answer.Refusal.{Refusal}
use Rattle.ra_host_text.specs.declared.answer.Refusal.TheVariants.{Limit}
use Rattle.ra_book.specs.declared.book.event.BookKind.{BookKind}
use Rattle.ra_book.specs.declared.book.event.BookKind.TheVariants.{Ask}
use Rattle.ra_clients.specs.declared.uses.NameUse.{NameUse}
use Rattle.ra_clients.specs.declared.roster.Roster.{Roster}
use Rattle.ra_clients.specs.Uses.{use_of, new_use, lock_refusal}
use Rattle.ra_clients.specs.Clients.{Limits, Clients, Turn, Turns, IsFirstUnused, with_uses, numbered, is_full, asks, asks_unless, locks, locks_as, until_at, silent, tells, goes, unconnected}
use Rattle.ra_clients.specs.Table.{is_had}
use Rattle.ra_clients.specs.RosterUse.{uses_of, connection_of, has, is_before, is_kept, Alters, Stays, Enrols, Parts}
use Rattle.ra_clients.specs.Shown.{AreShown, IsTurn}
use Rattle.ra_clients.proofs.Holding.{at_other, at_same}
use Rattle.ra_clients.proofs.NamedUses.{none_some}
use Rattle.ra_clients.proofs.InStep.{no_names, no_connection, push_had}
use Rattle.ra_clients.proofs.Shown.{as_turn, altered}

-- ---- A client that has a number asks

module _ (now : ℕ) (number_of : BTreeMap ℕ ℕ) (closed : BTreeSet ℕ) (old : Roster) (released : Bool) (s : Clients) (shows : AreShown now number_of closed old released s)
    (l : Limits) (c k : ℕ) (name : List ℕ) (mode : Mode) (until : Option ℕ) where
  asks_by : (o : Option Refusal) → lock_refusal name l.names (uses_of old k) ≡ o → asks l s c k name mode until ≡ asks_unless o s c k name mode until
  asks_by o is = ap (λ (x : Option Refusal). asks_unless x s c k name mode until) (ap (lock_refusal name l.names) (shows.uses k) ∙ is)

  pub more_refused : (why : Refusal) → lock_refusal name l.names (uses_of old k) ≡ Some why
      → IsTurn (λ t. AreShown now number_of closed old released t) (asks l s c k name mode until) ((c, Refused name why) ∷ []) None
  more_refused why is =
      as_turn (λ t. AreShown now number_of closed old released t) (asks l s c k name mode until) (tells s c (Refused name why)) ((c, Refused name why) ∷ []) None (asks_by (Some why) is)
      (record { clients = shows; tells_are = refl; does_is = refl; closes_not = refl })

  pub more_asks : (new : Roster) → lock_refusal name l.names (uses_of old k) ≡ None → Alters old k (uses_of old k ++ new_use name now until ∷ []) new
      → IsTurn (λ t. AreShown now number_of closed new released t) (asks l s c k name mode until) [] (Some (Ask k name mode))
  more_asks new is alters =
      as_turn (λ t. AreShown now number_of closed new released t) (asks l s c k name mode until) (asks_unless None s c k name mode until) [] (Some (Ask k name mode)) (asks_by None is)
      (record {
        clients =
            altered now number_of closed old new released s shows k (uses_of old k ++ new_use name now until ∷ []) (s.uses_of k ++ new_use name s.now until ∷ [])
            (λ i. sym (shows.uses k) i ++ new_use name (sym shows.now_is i) until ∷ [])
            alters;
        tells_are = refl;
        does_is = refl;
        closes_not = refl;
      })

-- ---- A client that has no number asks

module _ (now : ℕ) (number_of : BTreeMap ℕ ℕ) (closed : BTreeSet ℕ) (old : Roster) (released : Bool) (s : Clients) (shows : AreShown now number_of closed old released s)
    (l : Limits) (c u : ℕ) (name : List ℕ) (mode : Mode) (until : Option ℕ) where
  pub first_refused : is_full l s u ≡ true → IsTurn (λ t. AreShown now number_of closed old released t) (locks_as None l u s c name mode until) ((c, Refused name Limit) ∷ []) None
  first_refused is =
      as_turn (λ t. AreShown now number_of closed old released t) (locks_as None l u s c name mode until) (tells s c (Refused name Limit)) ((c, Refused name Limit) ∷ []) None
      (cond-true (is_full l s u) (tells s c (Refused name Limit)) (asks l (numbered s c u) c u name mode until) is)
      (record { clients = shows; tells_are = refl; does_is = refl; closes_not = refl })

  pub many_clients : l.clients ≤ btree_map_len number_of → is_full l s u ≡ true
  many_clients many = or_left (nat_le l.clients s.count) (nat_le l.names 0 || nat_le (2 ^ 32) u) (le-leb l.clients s.count (omega (arith, many, shows.count_is)))

  pub no_names_at_all : l.names ≡ 0 → is_full l s u ≡ true
  no_names_at_all none =
      or_right (nat_le l.clients s.count) (nat_le l.names 0 || nat_le (2 ^ 32) u)
      (or_left (nat_le l.names 0) (nat_le (2 ^ 32) u) (le-leb l.names 0 (omega (arith, none))))

  pub no_numbers : 2 ^ 32 ≤ u → is_full l s u ≡ true
  no_numbers beyond =
      or_right (nat_le l.clients s.count) (nat_le l.names 0 || nat_le (2 ^ 32) u)
      (or_right (nat_le l.names 0) (nat_le (2 ^ 32) u) (le-leb (2 ^ 32) u beyond))

  pub has_room : btree_map_len number_of < l.clients → l.names ≢ 0 → u < 2 ^ 32 → is_full l s u ≡ false
  has_room few some low =
      or_from (nat_le l.clients s.count) (nat_le l.names 0 || nat_le (2 ^ 32) u) (lt-leb l.clients s.count (omega (arith, few, shows.count_is)))
      (or_from (nat_le l.names 0) (nat_le (2 ^ 32) u) (lt-leb l.names 0 (omega (arith, some))) (lt-leb (2 ^ 32) u low))

  first_free : l.names ≢ 0 → uses_of old u ≡ [] → lock_refusal name l.names ((numbered s c u).uses_of u) ≡ None
  first_free some none = ap (lock_refusal name l.names) (shows.uses u ∙ none) ∙ cond-false (nat_le l.names 0) (Some Limit) None (lt-leb l.names 0 (omega (arith, some)))

  module _ (more : BTreeMap ℕ ℕ) (new : Roster) (enrols : Enrols old u c (new_use name now until) new) (here : get nat_cmp more c ≡ Some u)
      (others : (d : ℕ) → d ≢ c → get nat_cmp more d ≡ get nat_cmp number_of d) (count : btree_map_len more ≡ btree_map_len number_of + 1) where
    none_yet : uses_of old u ≡ []
    none_yet = no_names (connection_of old u) (uses_of old u) enrols.first.free

    abbrev after : Clients
    after = with_uses (numbered s c u) u (s.uses_of u ++ new_use name s.now until ∷ [])

    enrolled : AreShown now more closed new released after
    enrolled = record {
      now_is = shows.now_is;
      numbers = λ d.
          elim (cases_eq d c) [
            | inl same ↦ cond-true (d == c) (Some u) (s.number_of d) (eq-eqb d c same) ∙ (sym here ∙ ap (get nat_cmp more) (sym same))
            | inr apart ↦ cond-false (d == c) (Some u) (s.number_of d) (ne_eqb d c apart) ∙ (shows.numbers d ∙ sym (others d apart))
          ];
      are_closed = shows.are_closed;
      connections = λ k.
          elim (cases_eq k u) [
            | inl same ↦ cond-true (k == u) (Some c) (s.connection_of k) (eq-eqb k u same) ∙ (sym enrols.clients.connection_is ∙ ap (connection_of new) (sym same))
            | inr apart ↦ cond-false (k == u) (Some c) (s.connection_of k) (ne_eqb k u apart) ∙ (shows.connections k ∙ sym (enrols.clients.connections k apart))
          ];
      uses = λ k.
          elim (cases_eq k u) [
            | inl same ↦
                at_same (numbered s c u) u k (s.uses_of u ++ new_use name s.now until ∷ []) same
                ∙ ((λ i. (shows.uses u ∙ none_yet) i ++ new_use name (shows.now_is i) until ∷ []) ∙ (sym enrols.clients.uses ∙ ap (uses_of new) (sym same)))
            | inr apart ↦ at_other (numbered s c u) u k (s.uses_of u ++ new_use name s.now until ∷ []) apart ∙ (shows.uses k ∙ sym (enrols.clients.others k apart))
          ];
      kept = kept;
      count_is = ap (λ (n : ℕ). n + 1) shows.count_is ∙ sym count;
    }
      where
        kept : (k : ℕ) → has new k ≡ true → after.is_kept k ≡ is_kept new released k
        kept k is =
            elim (cases_eq k u) [
              | inl same ↦
                  let isnt : is_kept new released k ≡ false = ap (is_kept new released) same ∙ (ap (λ (b : Bool). not released && b) enrols.not_before ∙ no_more (not released)) in
                  cond-true (k == u) false (s.is_kept k) (eq-eqb k u same) ∙ sym isnt
              | inr apart ↦
                  let was : has old k ≡ true = (λ i. is_had (sym (enrols.clients.connections k apart) i) (sym (enrols.clients.others k apart) i)) ∙ is in
                  cond-false (k == u) false (s.is_kept k) (ne_eqb k u apart) ∙ (shows.kept k was ∙ ap (λ (b : Bool). not released && b) (sym (enrols.others k apart)))
            ]
          where
            no_more : (b : Bool) → b && false ≡ false
            no_more true = refl
            no_more false = refl

    pub first_asks : is_full l s u ≡ false → l.names ≢ 0 → IsTurn (λ t. AreShown now more closed new released t) (locks_as None l u s c name mode until) [] (Some (Ask u name mode))
    first_asks room some =
        as_turn (λ t. AreShown now more closed new released t) (locks_as None l u s c name mode until) (asks_unless None (numbered s c u) c u name mode until) [] (Some (Ask u name mode))
        (cond-false (is_full l s u) (tells s c (Refused name Limit)) (asks l (numbered s c u) c u name mode until) room
        ∙ ap (λ (o : Option Refusal). asks_unless o (numbered s c u) c u name mode until) (first_free some none_yet))
        (record { clients = enrolled; tells_are = refl; does_is = refl; closes_not = refl })

-- ---- All that a client's `lock` comes to

module _ (now : ℕ) (s : Clients) (l : Limits) (c u : ℕ) (name : List ℕ) (mode : Mode) (within until : Option ℕ) (time : s.now ≡ now) (ends : until ≡ until_at now within) where
  pub passed_over : s.is_closed c ≡ true → locks l u s c name mode within ≡ silent s
  passed_over is = cond-true (s.is_closed c) (silent s) (locks_as (s.number_of c) l u s c name mode (until_at s.now within)) is

  pub locks_by : (o : Option ℕ) → s.is_closed c ≡ false → s.number_of c ≡ o → locks l u s c name mode within ≡ locks_as o l u s c name mode until
  locks_by o isnt has =
      cond-false (s.is_closed c) (silent s) (locks_as (s.number_of c) l u s c name mode (until_at s.now within)) isnt
      ∙ (λ i. locks_as (has i) l u s c name mode ((ap (λ (n : ℕ). until_at n within) time ∙ sym ends) i))

-- ---- Its connection ends

module _ (now : ℕ) (number_of less : BTreeMap ℕ ℕ) (closed opens : BTreeSet ℕ) (old new : Roster) (released : Bool) (s : Clients) (shows : AreShown now number_of closed old released s) (c : ℕ)
    (opened : contains nat_cmp opens c ≡ false) (still : (d : ℕ) → d ≢ c → contains nat_cmp opens d ≡ contains nat_cmp closed d) where
  is_open : (d : ℕ) → (not (d == c) && s.is_closed d) ≡ contains nat_cmp opens d
  is_open d =
      elim (cases_eq d c) [
        | inl same ↦ and_left (not (d == c)) (s.is_closed d) (ap not (eq-eqb d c same)) ∙ (sym opened ∙ ap (contains nat_cmp opens) (sym same))
        | inr apart ↦ ap (λ (b : Bool). not b && s.is_closed d) (ne_eqb d c apart) ∙ (shows.are_closed d ∙ sym (still d apart))
      ]

  abbrev without_number : Clients
  without_number = record s { is_closed = λ d. not (d == c) && s.is_closed d }

  pub gone_unnumbered : get nat_cmp number_of c ≡ None → IsTurn (λ t. AreShown now number_of opens old released t) (goes s c) [] None
  gone_unnumbered none =
      as_turn (λ t. AreShown now number_of opens old released t) (goes s c) (silent without_number) [] None
      (ap (λ (o : Option ℕ). silent (record (unconnected o s c) { is_closed = λ d. not (d == c) && s.is_closed d })) (shows.numbers c ∙ none))
      (record {
        clients = record {
          now_is = shows.now_is;
          numbers = shows.numbers;
          are_closed = is_open;
          connections = shows.connections;
          uses = shows.uses;
          kept = shows.kept;
          count_is = shows.count_is;
        };
        tells_are = refl;
        does_is = refl;
        closes_not = refl;
      })

  module _ (k : ℕ) (has_number : get nat_cmp number_of c ≡ Some k) (here : get nat_cmp less c ≡ None) (others : (d : ℕ) → d ≢ c → get nat_cmp less d ≡ get nat_cmp number_of d)
      (count : btree_map_len less + 1 ≡ btree_map_len number_of) (parts : Parts old k new) where
    abbrev apart_now : Clients
    apart_now = record (unconnected (Some k) s c) { is_closed = λ d. not (d == c) && s.is_closed d }

    pub gone_numbered : IsTurn (λ t. AreShown now less opens new released t) (goes s c) [] None
    gone_numbered =
        as_turn (λ t. AreShown now less opens new released t) (goes s c) (silent apart_now) [] None
        (ap (λ (o : Option ℕ). silent (record (unconnected o s c) { is_closed = λ d. not (d == c) && s.is_closed d })) (shows.numbers c ∙ has_number))
        (record {
          clients = record {
            now_is = shows.now_is;
            numbers = λ d.
                elim (cases_eq d c) [
                  | inl same ↦ cond-true (d == c) None (s.number_of d) (eq-eqb d c same) ∙ (sym here ∙ ap (get nat_cmp less) (sym same))
                  | inr apart ↦ cond-false (d == c) None (s.number_of d) (ne_eqb d c apart) ∙ (shows.numbers d ∙ sym (others d apart))
                ];
            are_closed = is_open;
            connections = λ j.
                elim (cases_eq j k) [
                  | inl same ↦ cond-true (j == k) None (s.connection_of j) (eq-eqb j k same) ∙ (sym parts.clients.here ∙ ap (connection_of new) (sym same))
                  | inr apart ↦ cond-false (j == k) None (s.connection_of j) (ne_eqb j k apart) ∙ (shows.connections j ∙ sym (parts.clients.others j apart))
                ];
            uses = λ j. shows.uses j ∙ sym (parts.clients.uses j);
            kept = λ j had. shows.kept j (parts.before.had j had) ∙ ap (λ (b : Bool). not released && b) (sym (parts.before.before j had));
            count_is = omega (arith, count, shows.count_is);
          };
          tells_are = refl;
          does_is = refl;
          closes_not = refl;
        })
