-- The number of each connection is that of its client, and there is always a least number that nobody has.
use Rattle.std.proofs.Common.{◌≡◌, ◌≢◌, ℕ, zero, suc, ◌+◌, ◌-◌, ◌<◌, ◌≤◌, Bool, true, false, cond, List, [], ◌∷◌, Option, Some, None, refl, sym, ap, subst, ◌∙◌, inl, inr, arith}
use Rattle.std.specs.Prelude.{◌^◌, ◌&&◌, ◌||◌, not, nat_lt}
use Rattle.std.specs.BTreeMap.{BTreeMap, btree_map_len, get}
use Rattle.std.specs.BTreeSet.{BTreeSet, contains}
use Rattle.std.specs.Ordering.{nat_cmp}
use Rattle.std.proofs.lemmas.Bool.{cases_Bool, cases_eq, cases_order, false≢true, false_from_ne_true, le-ltb, ne_eqb, and_left, or_from}
use Rattle.std.proofs.lemmas.Option.{same_Some}
use Rattle.ra_clients.specs.declared.uses.NameUse.{NameUse}
use Rattle.ra_clients.specs.declared.numbers.Numbers.{Numbers}
use Rattle.ra_clients.specs.declared.roster.Roster.{Roster}
use Rattle.ra_clients.specs.Numbers.{AreWithin}
use Rattle.ra_clients.specs.NumberUse.{is_used, IsLeastFree}
use Rattle.ra_clients.specs.Clients.{Clients, IsUnused, IsFirstUnused}
use Rattle.ra_clients.specs.Table.{is_had}
use Rattle.ra_clients.specs.RosterUse.{uses_of, connection_of, has, AreNumbered}
use Rattle.ra_clients.specs.Shown.{AreShown}
use Rattle.ra_clients.proofs.NamedUses.{none_some}
use Rattle.ra_clients.proofs.InStep.{no_names, no_connection}

-- ---- The least number that is free

pub record First (p : ℕ → Bool) : Type 0 where
  pub number : ℕ
  pub free : p number ≡ false
  pub least : (j : ℕ) → j < number → p j ≡ true

-- one number more is used
one_more : (p : ℕ → Bool) (n : ℕ) → ((j : ℕ) → j < n → p j ≡ true) → p n ≡ true → (j : ℕ) → j < suc n → p j ≡ true
one_more p n low used j less =
    elim (cases_eq j n) [
      | inl same ↦ subst (λ (i : ℕ). p i ≡ true) (sym same) used
      | inr apart ↦ low j (omega (arith, less, apart))
    ]

pub first_from : (p : ℕ → Bool) (fuel n : ℕ) → ((j : ℕ) → j < n → p j ≡ true) → p (n + fuel) ≡ false → First p
first_from p zero n low none =
    let same : n + 0 ≡ n = omega arith in
    record { number = n; free = subst (λ (i : ℕ). p i ≡ false) same none; least = low }
first_from p (suc fuel) n low none =
    let same : n + suc fuel ≡ suc n + fuel = omega arith in
    elim (cases_Bool (p n)) [
      | inl used ↦ first_from p fuel (suc n) (one_more p n low used) (subst (λ (i : ℕ). p i ≡ false) same none)
      | inr free ↦ record { number = n; free = free; least = low }
    ]

-- beyond the last number none is used
beyond : (nu : Numbers) → nu.next ≤ 2 ^ 32 → AreWithin nu.before → is_used nu (2 ^ 32) ≡ false
beyond nu fits within =
    or_from (nat_lt (2 ^ 32) nu.next && not (contains nat_cmp nu.free (2 ^ 32))) (contains nat_cmp nu.before (2 ^ 32))
    (and_left (nat_lt (2 ^ 32) nu.next) (not (contains nat_cmp nu.free (2 ^ 32))) (le-ltb (2 ^ 32) nu.next fits))
    (false_from_ne_true (contains nat_cmp nu.before (2 ^ 32)) (λ is. let less = within (2 ^ 32) is in omega (arith, less)))

pub first_free : (nu : Numbers) → nu.next ≤ 2 ^ 32 → AreWithin nu.before → First (is_used nu)
first_free nu fits within =
    first_from (is_used nu) (2 ^ 32) 0 (λ j less. absurd (omega (arith, less))) (beyond nu fits within)

-- two least numbers are one
pub one_least : (nu : Numbers) (a b : ℕ) → IsLeastFree nu a → IsLeastFree nu b → a ≡ b
one_least nu a b this other =
    elim (cases_order a b) [
      | inl same ↦ same
      | inr differ ↦
          elim differ [
            | inl below ↦ absurd (false≢true (sym this.free ∙ other.least a below))
            | inr above ↦ absurd (false≢true (sym other.free ∙ this.least b above))
          ]
    ]

module _ (now : ℕ) (number_of : BTreeMap ℕ ℕ) (closed : BTreeSet ℕ) (r : Roster) (released : Bool) (s : Clients) (shows : AreShown now number_of closed r released s)
    (used : (k : ℕ) → is_used r.numbers k ≡ has r k) where
  unused_not : (j : ℕ) → IsUnused s j → has r j ≡ false
  unused_not j none = λ i. is_had ((sym (shows.connections j) ∙ none.no_connection) i) ((sym (shows.uses j) ∙ none.no_uses) i)

  -- the least number that is free is the least that nobody has
  pub first_unused : (k : ℕ) → is_used r.numbers k ≡ false → ((j : ℕ) → j < k → is_used r.numbers j ≡ true) → IsFirstUnused s k
  first_unused k free least =
      let none : has r k ≡ false = sym (used k) ∙ free in
      record {
        unused = record {
          no_connection = shows.connections k ∙ no_connection (connection_of r k) (uses_of r k) none;
          no_uses = shows.uses k ∙ no_names (connection_of r k) (uses_of r k) none;
        };
        least = λ j low unused. false≢true (sym (unused_not j unused) ∙ (sym (used j) ∙ least j low));
      }

  pub same_unused : (k u : ℕ) → is_used r.numbers k ≡ false → ((j : ℕ) → j < k → is_used r.numbers j ≡ true) → IsFirstUnused s u → u ≡ k
  same_unused k u free least first =
      let mine = first_unused k free least in
      elim (cases_order u k) [
        | inl same ↦ same
        | inr differ ↦
            elim differ [
              | inl below ↦ absurd (mine.least u below first.unused)
              | inr above ↦ absurd (first.least k above mine.unused)
            ]
      ]

  -- no number below the last is free, so the least that nobody has is beyond
  pub unused_beyond : (u : ℕ) → ((j : ℕ) → j < 2 ^ 32 → is_used r.numbers j ≡ true) → IsFirstUnused s u → 2 ^ 32 ≤ u
  unused_beyond u all first =
      elim (cases_order u (2 ^ 32)) [
        | inl same ↦ omega (arith, same)
        | inr differ ↦
            elim differ [
              | inl below ↦ absurd (false≢true (sym (unused_not u first.unused) ∙ (sym (used u) ∙ all u below)))
              | inr above ↦ omega (arith, above)
            ]
      ]

-- ---- The numbers of connections

module _ (number_of : BTreeMap ℕ ℕ) (old new : Roster) (all : AreNumbered number_of old) where
  -- no connection changes
  pub numbered_still : ((k : ℕ) → connection_of new k ≡ connection_of old k) → AreNumbered number_of new
  numbered_still same c k is = same k ∙ all c k is

  -- a connection gets a number that nobody had
  pub numbered_more : (more : BTreeMap ℕ ℕ) (c k : ℕ) → ((d : ℕ) → d ≢ c → get nat_cmp more d ≡ get nat_cmp number_of d) → get nat_cmp more c ≡ Some k
      → connection_of old k ≡ None → connection_of new k ≡ Some c → ((j : ℕ) → j ≢ k → connection_of new j ≡ connection_of old j) → AreNumbered more new
  numbered_more more c k others here none connected same d j is =
      elim (cases_eq d c) [
        | inl its ↦
            let its_number : k ≡ j = same_Some k j (sym here ∙ (ap (get nat_cmp more) (sym its) ∙ is)) in
            subst (λ (i : ℕ). connection_of new i ≡ Some d) its_number (connected ∙ ap (λ (i : ℕ). Some i) (sym its))
        | inr apart ↦
            let was = all d j (sym (others d apart) ∙ is) in
            let differ : j ≢ k = λ its. none_some d (sym none ∙ (ap (connection_of old) (sym its) ∙ was)) in
            same j differ ∙ was
      ]

  -- a connection has its number no more
  pub numbered_less : (less : BTreeMap ℕ ℕ) (c k : ℕ) → ((d : ℕ) → d ≢ c → get nat_cmp less d ≡ get nat_cmp number_of d) → get nat_cmp less c ≡ None
      → connection_of old k ≡ Some c → ((j : ℕ) → j ≢ k → connection_of new j ≡ connection_of old j) → AreNumbered less new
  numbered_less less c k others here connected same d j is =
      elim (cases_eq d c) [
        | inl its ↦ absurd (none_some j (sym here ∙ (ap (get nat_cmp less) (sym its) ∙ is)))
        | inr apart ↦
            let was = all d j (sym (others d apart) ∙ is) in
            let differ : j ≢ k = λ its. apart (same_Some d c (sym was ∙ (ap (connection_of old) its ∙ connected))) in
            same j differ ∙ was
      ]
