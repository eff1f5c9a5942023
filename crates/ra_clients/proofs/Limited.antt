-- How many names a client has after a turn.
use Rattle.std.proofs.Common.{◌≡◌, ℕ, ◌≤◌, Bool, true, false, cond, List, [], ◌∷◌, ◌++◌, length, Option, Some, None, refl, sym, subst, inl, inr, arith, length-append, is_some}
use Rattle.std.specs.Prelude.{nat_le}
use Rattle.std.specs.Str.{bytes_eq}
use Rattle.std.proofs.lemmas.Bool.{cases_Bool, cases_eq, cond_both, leb-false}
use Rattle.ra_stamp.specs.declared.mode.Mode.{Mode}
use Rattle.ra_host_text.specs.declared.answer.Refusal.{Refusal}
use Rattle.ra_host_text.specs.declared.answer.Refusal.TheVariants.{Busy, Limit}
use Rattle.ra_clients.specs.declared.uses.NameUse.{NameUse}
use Rattle.ra_clients.specs.Uses.{use_of, waits_for, new_use, let_in, without, lock_refusal}
use Rattle.ra_clients.specs.Clients.{Limits, Clients, Turn, Event, Turns, with_uses, is_full, numbered, asks_unless, locks_as, until_at, unlocks_use, unlocks_as, unconnected}
use Rattle.ra_clients.specs.Clients.Event.{Lock, Unlock, Bad, Refuse, Enter, Gone, Time, Release, Give_up, Give_back}
use Rattle.ra_clients.specs.Laws.{IsWithin}
use Rattle.ra_clients.proofs.Holding.{at_other, at_same}

no_more : (name : List ℕ) (us : List NameUse) → length (without name us) ≤ length us
no_more name [] = omega arith
no_more name (u ∷ us) =
    elim (cases_Bool (bytes_eq u.name name)) [
      | inl equal ↦ rw equal (omega arith)
      | inr unequal ↦ rw unequal (let rest = no_more name us in omega (arith, rest))
    ]

as_many : (name : List ℕ) (now : ℕ) (us : List NameUse) → length (let_in name now us) ≡ length us
as_many name now [] = refl
as_many name now (u ∷ us) =
    elim (cases_Bool (bytes_eq u.name name)) [
      | inl equal ↦ rw equal refl
      | inr unequal ↦ rw unequal (let rest = as_many name now us in omega (arith, rest))
    ]

-- a client that is not refused has room for a name
not_refused : (a b : Bool) → cond a (Some Busy) (cond b (Some Limit) None) ≡ None → b ≡ false
not_refused true b is = absurd (cc)
not_refused false true is = absurd (cc)
not_refused false false is = refl

module _ (l : Limits) (k : ℕ) where
  -- the uses of client j change
  changed : (s : Clients) (j : ℕ) (us : List NameUse) → (k ≡ j → length us ≤ l.names) → IsWithin l s k → IsWithin l (with_uses s j us) k
  changed s j us few within =
      elim (cases_eq k j) [
        | inl same ↦ subst (λ (vs : List NameUse). length vs ≤ l.names) (sym (at_same s j k us same)) (few same)
        | inr apart ↦ subst (λ (vs : List NameUse). length vs ≤ l.names) (sym (at_other s j k us apart)) within
      ]

  at : (s : Clients) (j : ℕ) → k ≡ j → IsWithin l s k → length (s.uses_of j) ≤ l.names
  at s j same within = subst (λ (i : ℕ). length (s.uses_of i) ≤ l.names) same within

  fewer : (s : Clients) (j : ℕ) (name : List ℕ) → IsWithin l s k → IsWithin l (with_uses s j (without name (s.uses_of j))) k
  fewer s j name within =
      changed s j (without name (s.uses_of j)) (λ same. let some = at s j same within in omega (arith, no_more name (s.uses_of j), some)) within

  abbrev After : Clients → Turn → Type 0
  After s t = IsWithin l s k → IsWithin l t.clients k

  asks_within : (o : Option Refusal) (s : Clients) (c j : ℕ) (name : List ℕ) (mode : Mode) (until : Option ℕ) → lock_refusal name l.names (s.uses_of j) ≡ o → After s (asks_unless o s c j name mode until)
  asks_within (Some why) s c j name mode until is within = within
  asks_within None s c j name mode until is within =
      let us = s.uses_of j in
      let room = leb-false l.names (length us) (not_refused (is_some (use_of name us)) (nat_le l.names (length us)) is) in
      changed s j (us ++ new_use name s.now until ∷ []) (λ same. omega (arith, room, length-append us (new_use name s.now until ∷ []))) within

  locks_within : (o : Option ℕ) (unused : ℕ) (s : Clients) (c : ℕ) (name : List ℕ) (mode : Mode) (until : Option ℕ) → After s (locks_as o l unused s c name mode until)
  locks_within (Some j) unused s c name mode until = asks_within (lock_refusal name l.names (s.uses_of j)) s c j name mode until refl
  locks_within None unused s c name mode until =
      cond_both (is_full l s unused) _ _ (After s) (λ _ within. within)
      (λ _. asks_within (lock_refusal name l.names (s.uses_of unused)) (numbered s c unused) c unused name mode until refl)

  unlocks_within : (o : Option NameUse) (s : Clients) (c j : ℕ) (name : List ℕ) → After s (unlocks_use o s c j name)
  unlocks_within None s c j name within = within
  unlocks_within (Some u) s c j name within = fewer s j name within

  unlock_within : (o : Option ℕ) (s : Clients) (c : ℕ) (name : List ℕ) → After s (unlocks_as o s c name)
  unlock_within None s c name within = within
  unlock_within (Some j) s c name within = unlocks_within (use_of name (s.uses_of j)) s c j name within

  uses_stay : (o : Option ℕ) (s : Clients) (c : ℕ) → (unconnected o s c).uses_of k ≡ s.uses_of k
  uses_stay None s c = refl
  uses_stay (Some j) s c = refl

  pub within_after : (s : Clients) (e : Event) (t : Turn) → Turns l s e t → After s t
  within_after s (Lock c name mode within) t is =
      subst (After s) (sym is.2)
      (cond_both (s.is_closed c) _ _ (After s) (λ _ few. few) (λ _. locks_within (s.number_of c) is.0 s c name mode (until_at s.now within)))
  within_after s (Unlock c name) t is = subst (After s) (sym is) (cond_both (s.is_closed c) _ _ (After s) (λ _ few. few) (λ _. unlock_within (s.number_of c) s c name))
  within_after s (Bad c) t is = subst (After s) (sym is) (λ few. few)
  within_after s (Refuse j name why) t is = subst (After s) (sym is) (cond_both (waits_for name (s.uses_of j)) _ _ (After s) (λ _. fewer s j name) (λ _ few. few))
  within_after s (Enter j name seq node) t is =
      subst (After s) (sym is)
      (cond_both (waits_for name (s.uses_of j)) _ _ (After s)
      (λ _ few. changed s j (let_in name s.now (s.uses_of j)) (λ same. let some = at s j same few in omega (arith, as_many name s.now (s.uses_of j), some)) few)
      (λ _ few. few))
  within_after s (Gone c) t is =
      subst (After s) (sym is) (λ few. subst (λ (vs : List NameUse). length vs ≤ l.names) (sym (uses_stay (s.number_of c) s c)) few)
  within_after s (Time now) t is = subst (After s) (sym is) (λ few. few)
  within_after s Release t is = subst (After s) (sym is) (λ few. few)
  within_after s (Give_up j name) t is = subst (After s) (sym is.1) (fewer s j name)
  within_after s (Give_back j name) t is = subst (After s) (sym is.1.2) (fewer s j name)
