-- A name comes to a client only when it asks for it.
use Rattle.std.proofs.Common.{◌≡◌, ◌⊎◌, ℕ, true, false, List, [], ◌∷◌, ◌++◌, Option, Some, None, refl, sym, ap, subst, ◌∙◌, inl, inr}
use Rattle.std.specs.Str.{bytes_eq}
use Rattle.std.proofs.lemmas.Bool.{cases_Bool, cases_eq, cond_both, eq-eqb, false≢true}
use Rattle.ra_stamp.specs.declared.mode.Mode.{Mode}
use Rattle.ra_host_text.specs.declared.answer.Refusal.{Refusal}
use Rattle.ra_clients.specs.declared.uses.NameUse.{NameUse}
use Rattle.ra_clients.specs.Uses.{use_of, waits_for, waits_if_some, new_use, let_in, without, lock_refusal}
use Rattle.ra_clients.specs.Clients.{Limits, Clients, Turn, Event, Turns, with_uses, is_full, numbered, asks_unless, locks_as, until_at, unlocks_use, unlocks_as, unconnected}
use Rattle.ra_clients.specs.Clients.Event.{Lock, Unlock, Bad, Refuse, Enter, Gone, Time, Release, Give_up, Give_back}
use Rattle.ra_clients.specs.Laws.{IsAsked}
use Rattle.ra_clients.proofs.Holding.{at_other, at_same, not_it}
use Rattle.ra_clients.proofs.NamedUses.{same_name, differs, after_end, after_other_entry}
use Rattle.ra_clients.proofs.Once.{past, stays}

module _ (k : ℕ) (name : List ℕ) where
  -- the client does not have the name
  abbrev Lacks : Clients → Type 0
  Lacks s = use_of name (s.uses_of k) ≡ None

  abbrev Comes : Event → Turn → Type 0
  Comes e t = Lacks t.clients ⊎ IsAsked e k name t

  lacks_at : (s : Clients) (j : ℕ) → k ≡ j → Lacks s → use_of name (s.uses_of j) ≡ None
  lacks_at s j same none = subst (λ (i : ℕ). use_of name (s.uses_of i) ≡ None) same none

  -- the uses of client j change
  changed : (s : Clients) (j : ℕ) (us : List NameUse) → (k ≡ j → use_of name us ≡ None) → Lacks s → Lacks (with_uses s j us)
  changed s j us here none =
      elim (cases_eq k j) [
        | inl same ↦ ap (use_of name) (at_same s j k us same) ∙ here same
        | inr apart ↦ ap (use_of name) (at_other s j k us apart) ∙ none
      ]

  after_without : (other : List ℕ) (us : List NameUse) → use_of name us ≡ None → use_of name (without other us) ≡ None
  after_without other us none =
      elim (cases_Bool (bytes_eq name other)) [
        | inl equal ↦
            let its_name = same_name name other equal in
            ap (λ (n : List ℕ). use_of name (without n us)) (sym its_name) ∙ (ap (use_of name) (stays name us none) ∙ none)
        | inr unequal ↦ after_end name other us (not_it name other unequal) ∙ none
      ]

  ended : (s : Clients) (j : ℕ) (other : List ℕ) → Lacks s → Lacks (with_uses s j (without other (s.uses_of j)))
  ended s j other none = changed s j (without other (s.uses_of j)) (λ same. after_without other (s.uses_of j) (lacks_at s j same none)) none

  after_let_in : (other : List ℕ) (now : ℕ) (us : List NameUse) → waits_for other us ≡ true → use_of name us ≡ None → use_of name (let_in other now us) ≡ None
  after_let_in other now us waiting none =
      elim (cases_Bool (bytes_eq name other)) [
        | inl equal ↦
            let its_name = same_name name other equal in
            let not_there : use_of other us ≡ None = ap (λ (n : List ℕ). use_of n us) (sym its_name) ∙ none in
            absurd (false≢true (sym (ap waits_if_some not_there) ∙ waiting))
        | inr unequal ↦ after_other_entry name other now us (not_it name other unequal) ∙ none
      ]

  entered : (s : Clients) (j : ℕ) (other : List ℕ) → waits_for other (s.uses_of j) ≡ true → Lacks s → Lacks (with_uses s j (let_in other s.now (s.uses_of j)))
  entered s j other waiting none = changed s j (let_in other s.now (s.uses_of j)) (λ same. after_let_in other s.now (s.uses_of j) waiting (lacks_at s j same none)) none

  asks_come : (o : Option Refusal) (s : Clients) (c j : ℕ) (other : List ℕ) (mode : Mode) (until within : Option ℕ) → s.number_of c ≡ Some j → Lacks s
      → Comes (Lock c other mode within) (asks_unless o s c j other mode until)
  asks_come (Some why) s c j other mode until within its none = inl none
  asks_come None s c j other mode until within its none =
      let more = new_use other s.now until ∷ [] in
      elim (cases_eq k j) [
        | inl same ↦
            elim (cases_Bool (bytes_eq name other)) [
              | inl equal ↦
                  let its_name = same_name name other equal in
                  inr
                  (record {
                    client = c;
                    mode = mode;
                    within = within;
                    event = ap (λ (n : List ℕ). Lock c n mode within) (sym its_name);
                    number = its ∙ ap (λ (i : ℕ). Some i) (sym same);
                  })
              | inr unequal ↦
                  let apart : bytes_eq other name ≡ false = differs other name (λ is. not_it name other unequal (sym is)) in
                  inl
                  (changed s j (s.uses_of j ++ more) (λ here. past name (s.uses_of j) more (lacks_at s j here none) ∙ rw apart refl) none)
            ]
        | inr apart ↦ inl (changed s j (s.uses_of j ++ more) (λ here. absurd (apart here)) none)
      ]

  locks_come : (o : Option ℕ) (l : Limits) (unused : ℕ) (s : Clients) (c : ℕ) (other : List ℕ) (mode : Mode) (until within : Option ℕ) → s.number_of c ≡ o → Lacks s
      → Comes (Lock c other mode within) (locks_as o l unused s c other mode until)
  locks_come (Some j) l unused s c other mode until within its none = asks_come (lock_refusal other l.names (s.uses_of j)) s c j other mode until within its none
  locks_come None l unused s c other mode until within its none =
      cond_both (is_full l s unused) _ _ (Comes (Lock c other mode within)) (λ _. inl none)
      (λ _. asks_come (lock_refusal other l.names (s.uses_of unused)) (numbered s c unused) c unused other mode until within (rw (eq-eqb c c refl) refl) none)

  unlocks_come : (o : Option NameUse) (s : Clients) (c j : ℕ) (other : List ℕ) → Lacks s → Lacks (unlocks_use o s c j other).clients
  unlocks_come None s c j other none = none
  unlocks_come (Some u) s c j other none = ended s j other none

  unlock_comes : (o : Option ℕ) (s : Clients) (c : ℕ) (other : List ℕ) → Lacks s → Lacks (unlocks_as o s c other).clients
  unlock_comes None s c other none = none
  unlock_comes (Some j) s c other none = unlocks_come (use_of other (s.uses_of j)) s c j other none

  uses_stay : (o : Option ℕ) (s : Clients) (c : ℕ) → Lacks s → Lacks (unconnected o s c)
  uses_stay None s c none = none
  uses_stay (Some j) s c none = none

  abbrev LacksIn : Turn → Type 0
  LacksIn t = Lacks t.clients

  pub comes : (l : Limits) (s : Clients) (e : Event) (t : Turn) → Turns l s e t → Lacks s → Comes e t
  comes l s (Lock c other mode within) t is none =
      subst (Comes (Lock c other mode within)) (sym is.2)
      (cond_both (s.is_closed c) _ _ (Comes (Lock c other mode within)) (λ _. inl none)
      (λ _. locks_come (s.number_of c) l is.0 s c other mode (until_at s.now within) within refl none))
  comes l s (Unlock c other) t is none =
      inl (subst LacksIn (sym is) (cond_both (s.is_closed c) _ _ LacksIn (λ _. none) (λ _. unlock_comes (s.number_of c) s c other none)))
  comes l s (Bad c) t is none = inl (subst LacksIn (sym is) none)
  comes l s (Refuse j other why) t is none =
      inl (subst LacksIn (sym is) (cond_both (waits_for other (s.uses_of j)) _ _ LacksIn (λ _. ended s j other none) (λ _. none)))
  comes l s (Enter j other seq node) t is none =
      inl (subst LacksIn (sym is) (cond_both (waits_for other (s.uses_of j)) _ _ LacksIn (λ waiting. entered s j other waiting none) (λ _. none)))
  comes l s (Gone c) t is none = inl (subst LacksIn (sym is) (uses_stay (s.number_of c) s c none))
  comes l s (Time now) t is none = inl (subst LacksIn (sym is) none)
  comes l s Release t is none = inl (subst LacksIn (sym is) none)
  comes l s (Give_up j other) t is none = inl (subst LacksIn (sym is.1) (ended s j other none))
  comes l s (Give_back j other) t is none = inl (subst LacksIn (sym is.1.2) (ended s j other none))
