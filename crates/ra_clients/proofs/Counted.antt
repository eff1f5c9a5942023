-- How many connections have a number after a turn.
use Rattle.std.proofs.Common.{◌≡◌, ◌≢◌, ℕ, ◌+◌, ◌<◌, ◌≤◌, zero, suc, List, Option, Some, None, refl, sym, ap, subst, ◌∙◌, inl, inr, arith}
use Rattle.std.specs.Prelude.{nat_le, ◌^◌, ◌||◌}
use Rattle.std.proofs.lemmas.Bool.{cases_eq, cond_both, eq-eqb, leb-false, ne_eqb, or_parts}
use Rattle.ra_stamp.specs.declared.mode.Mode.{Mode}
use Rattle.ra_host_text.specs.declared.answer.Refusal.{Refusal}
use Rattle.ra_clients.specs.declared.uses.NameUse.{NameUse}
use Rattle.ra_clients.specs.Uses.{use_of, waits_for, lock_refusal}
use Rattle.ra_clients.specs.Clients.{Limits, Clients, Turn, Event, Turns, is_full, numbered, asks_unless, locks_as, until_at, unlocks_use, unlocks_as, unconnected}
use Rattle.ra_clients.specs.Clients.Event.{Lock, Unlock, Bad, Refuse, Enter, Gone, Time, Release, Give_up, Give_back}
use Rattle.ra_clients.specs.Counts.{one_if_some, numbered_below, IsCounted}
use Rattle.ra_clients.specs.Laws.{IsUnconnected}

-- ---- Counting

-- the same connections have numbers
same_below : (f g : ℕ → Option ℕ) (n : ℕ) → ((d : ℕ) → d < n → g d ≡ f d) → numbered_below g n ≡ numbered_below f n
same_below f g zero same = refl
same_below f g (suc n) same =
    let rest = same_below f g n (λ d low. same d (omega (arith, low))) in
    let last : one_if_some (g n) ≡ one_if_some (f n) = ap one_if_some (same n (omega arith)) in
    omega (arith, rest, last)

-- none later has a number
none_more : (f : ℕ → Option ℕ) (m n : ℕ) → ((d : ℕ) → m ≤ d → f d ≡ None) → m ≤ n → numbered_below f n ≡ numbered_below f m
none_more f m zero none low = let same : m ≡ 0 = omega (arith, low) in ap (numbered_below f) (sym same)
none_more f m (suc n) none low =
    elim (cases_eq m (suc n)) [
      | inl same ↦ ap (numbered_below f) (sym same)
      | inr apart ↦
          let before : m ≤ n = omega (arith, low, apart) in
          let rest = none_more f m n none before in
          let last : one_if_some (f n) ≡ 0 = ap one_if_some (none n before) in
          omega (arith, rest, last)
    ]

-- one connection more has a number
one_more : (f g : ℕ → Option ℕ) (c k n : ℕ) → c < n → f c ≡ None → g c ≡ Some k → ((d : ℕ) → d ≢ c → g d ≡ f d) → numbered_below g n ≡ numbered_below f n + 1
one_more f g c k zero low none some others = absurd (omega (arith, low))
one_more f g c k (suc n) low none some others =
    elim (cases_eq c n) [
      | inl same ↦
          let rest = same_below f g n (λ d before. others d (λ is. absurd (omega (arith, before, same, is)))) in
          let old : one_if_some (f n) ≡ 0 = ap one_if_some (ap f (sym same) ∙ none) in
          let new : one_if_some (g n) ≡ 1 = ap one_if_some (ap g (sym same) ∙ some) in
          omega (arith, rest, old, new)
      | inr apart ↦
          let rest = one_more f g c k n (omega (arith, low, apart)) none some others in
          let last : one_if_some (g n) ≡ one_if_some (f n) = ap one_if_some (others n (λ is. apart (sym is))) in
          omega (arith, rest, last)
    ]

-- ---- What a turn keeps

pub record Counts (l : Limits) (s t : Clients) : Type 0 where
  pub counted : IsCounted s → IsCounted t
  pub within : s.count ≤ l.clients → t.count ≤ l.clients

module _ (l : Limits) where
  counts_same : (s t : Clients) → t.number_of ≡ s.number_of → t.count ≡ s.count → Counts l s t
  counts_same s t numbers count = record {
    counted = λ is. record {
      bound = is.bound;
      none_later = λ c late. ap (λ (f : ℕ → Option ℕ). f c) numbers ∙ is.none_later c late;
      count_is = count ∙ (is.count_is ∙ ap (λ (f : ℕ → Option ℕ). numbered_below f is.bound) (sym numbers));
    };
    within = λ few. subst (λ (n : ℕ). n ≤ l.clients) (sym count) few;
  }

  counts_all : (s : Clients) → Counts l s s
  counts_all s = counts_same s s refl refl

  counts_both : (s t u : Clients) → Counts l s t → Counts l t u → Counts l s u
  counts_both s t u a b = record { counted = λ is. b.counted (a.counted is); within = λ few. b.within (a.within few) }

  -- a connection gets a number
  counts_numbered : (s : Clients) (c j : ℕ) → s.number_of c ≡ None → s.count < l.clients → Counts l s (numbered s c j)
  counts_numbered s c j none room = record {
    counted = λ is.
        let f = s.number_of in
        let g = (numbered s c j).number_of in
        let longer = none_more f is.bound (is.bound + suc c) is.none_later (omega arith) in
        let here : g c ≡ Some j = rw (eq-eqb c c refl) refl in
        let more = one_more f g c j (is.bound + suc c) (omega arith) none here (λ d apart. rw (ne_eqb d c apart) refl) in
        let was = is.count_is in
        record {
          bound = is.bound + suc c;
          none_later = λ d late.
              let apart : d ≢ c = λ same. absurd (omega (arith, late, same)) in
              rw (ne_eqb d c apart) (is.none_later d (omega (arith, late)));
          count_is = omega (arith, was, longer, more);
        };
    within = λ few. omega (arith, room);
  }

  -- a connection ends
  counts_gone : (s : Clients) (c j : ℕ) → s.number_of c ≡ Some j → Counts l s (unconnected (Some j) s c)
  counts_gone s c j its = record {
    counted = λ is.
        let f = s.number_of in
        let g = (unconnected (Some j) s c).number_of in
        let longer = none_more f is.bound (is.bound + suc c) is.none_later (omega arith) in
        let here : g c ≡ None = rw (eq-eqb c c refl) refl in
        let more = one_more g f c j (is.bound + suc c) (omega arith) here its (λ d apart. rw (ne_eqb d c apart) refl) in
        let was = is.count_is in
        record {
          bound = is.bound + suc c;
          none_later = λ d late.
              let apart : d ≢ c = λ same. absurd (omega (arith, late, same)) in
              rw (ne_eqb d c apart) (is.none_later d (omega (arith, late)));
          count_is = omega (arith, was, longer, more);
        };
    within = λ few. omega (arith, few);
  }

  counts_unconnected : (o : Option ℕ) (s : Clients) (c : ℕ) → s.number_of c ≡ o → Counts l s (unconnected o s c)
  counts_unconnected None s c is = counts_all s
  counts_unconnected (Some j) s c is = counts_gone s c j is

  -- ---- Turns

  asks_count : (o : Option Refusal) (s : Clients) (c j : ℕ) (name : List ℕ) (mode : Mode) (until : Option ℕ) → Counts l s (asks_unless o s c j name mode until).clients
  asks_count (Some why) s c j name mode until = counts_all s
  asks_count None s c j name mode until = counts_same s _ refl refl

  module _ (s : Clients) where
    abbrev CountsIn : Turn → Type 0
    CountsIn t = Counts l s t.clients

    locks_count : (o : Option ℕ) (unused : ℕ) (c : ℕ) (name : List ℕ) (mode : Mode) (until : Option ℕ) → s.number_of c ≡ o → CountsIn (locks_as o l unused s c name mode until)
    locks_count (Some j) unused c name mode until is = asks_count (lock_refusal name l.names (s.uses_of j)) s c j name mode until
    locks_count None unused c name mode until is =
        cond_both (is_full l s unused) _ _ CountsIn (λ _. counts_all s)
        (λ room.
        let free = leb-false l.clients s.count (or_parts (nat_le l.clients s.count) (nat_le l.names 0 || nat_le (2 ^ 32) unused) room).0 in
        counts_both s (numbered s c unused) _ (counts_numbered s c unused is free)
        (asks_count (lock_refusal name l.names (s.uses_of unused)) (numbered s c unused) c unused name mode until))

    unlocks_count : (o : Option NameUse) (c j : ℕ) (name : List ℕ) → CountsIn (unlocks_use o s c j name)
    unlocks_count None c j name = counts_all s
    unlocks_count (Some u) c j name = counts_same s _ refl refl

    unlock_counts : (o : Option ℕ) (c : ℕ) (name : List ℕ) → CountsIn (unlocks_as o s c name)
    unlock_counts None c name = counts_all s
    unlock_counts (Some j) c name = unlocks_count (use_of name (s.uses_of j)) c j name

    counts : (e : Event) (t : Turn) → Turns l s e t → CountsIn t
    counts (Lock c name mode within) t is =
        subst CountsIn (sym is.2)
        (cond_both (s.is_closed c) _ _ CountsIn (λ _. counts_all s)
        (λ _. locks_count (s.number_of c) is.0 c name mode (until_at s.now within) refl))
    counts (Unlock c name) t is =
        subst CountsIn (sym is) (cond_both (s.is_closed c) _ _ CountsIn (λ _. counts_all s) (λ _. unlock_counts (s.number_of c) c name))
    counts (Bad c) t is = subst CountsIn (sym is) (counts_same s _ refl refl)
    counts (Refuse j name why) t is =
        subst CountsIn (sym is) (cond_both (waits_for name (s.uses_of j)) _ _ CountsIn (λ _. counts_same s _ refl refl) (λ _. counts_all s))
    counts (Enter j name seq node) t is =
        subst CountsIn (sym is) (cond_both (waits_for name (s.uses_of j)) _ _ CountsIn (λ _. counts_same s _ refl refl) (λ _. counts_all s))
    counts (Gone c) t is =
        subst CountsIn (sym is)
        (counts_both s (unconnected (s.number_of c) s c) _ (counts_unconnected (s.number_of c) s c refl)
        (counts_same (unconnected (s.number_of c) s c) _ refl refl))
    counts (Time now) t is = subst CountsIn (sym is) (counts_same s _ refl refl)
    counts Release t is = subst CountsIn (sym is) (counts_same s _ refl refl)
    counts (Give_up j name) t is = subst CountsIn (sym is.1) (counts_same s _ refl refl)
    counts (Give_back j name) t is = subst CountsIn (sym is.1.2) (counts_same s _ refl refl)

pub starts_counted : (s : Clients) → IsUnconnected s → IsCounted s
starts_counted s is = record { bound = 0; none_later = λ c late. is.no_number c; count_is = is.count_is }

pub counted_after : (l : Limits) (s : Clients) (e : Event) (t : Turn) → Turns l s e t → IsCounted s → IsCounted t.clients
counted_after l s e t is = (counts l s e t is).counted

pub count_within : (l : Limits) (s : Clients) (e : Event) (t : Turn) → Turns l s e t → s.count ≤ l.clients → t.clients.count ≤ l.clients
count_within l s e t is = (counts l s e t is).within
