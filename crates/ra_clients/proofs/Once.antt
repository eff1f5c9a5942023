-- No client has a name twice.
use Rattle.std.proofs.Common.{◌≡◌, ◌≢◌, ℕ, Bool, true, false, cond, List, [], ◌∷◌, ◌++◌, length, Option, Some, None, refl, sym, ap, subst, ◌∙◌, inl, inr, is_some}
use Rattle.std.specs.Prelude.{nat_le}
use Rattle.std.specs.Str.{bytes_eq}
use Rattle.std.proofs.lemmas.Bool.{cases_Bool, cases_eq, cond_both}
use Rattle.ra_stamp.specs.declared.mode.Mode.{Mode}
use Rattle.ra_host_text.specs.declared.answer.Refusal.{Refusal}
use Rattle.ra_host_text.specs.declared.answer.Refusal.TheVariants.{Busy, Limit}
use Rattle.ra_clients.specs.declared.uses.NameUse.{NameUse}
use Rattle.ra_clients.specs.Uses.{use_of, waits_for, new_use, let_in, without, lock_refusal}
use Rattle.ra_clients.specs.Clients.{Limits, Clients, Turn, Event, Turns, with_uses, is_full, numbered, asks_unless, locks_as, until_at, unlocks_use, unlocks_as, unconnected, goes}
use Rattle.ra_clients.specs.Clients.Event.{Lock, Unlock, Bad, Refuse, Enter, Gone, Time, Release, Give_up, Give_back}
use Rattle.ra_clients.specs.AtNode.{AreOnce, AreDistinct}
use Rattle.ra_clients.proofs.Holding.{at_other, at_same, not_it}
use Rattle.ra_clients.proofs.NamedUses.{none_some, same_name, its_own, differs, after_end, after_other_entry}

-- ---- One list

some_none : {A : Type 0} (x : A) → Some x ≡ None → ⊥
some_none x is = absurd (cc)

module _ (name : List ℕ) where
  -- what is at the end of a list that has no use of the name
  pub past : (us vs : List NameUse) → use_of name us ≡ None → use_of name (us ++ vs) ≡ use_of name vs
  past [] vs none = refl
  past (x ∷ us) vs none =
      elim (cases_Bool (bytes_eq x.name name)) [
        | inl equal ↦ absurd (some_none x (rw equal at none))
        | inr unequal ↦ rw unequal (past us vs (rw unequal at none))
      ]

  without_first : (us vs : List NameUse) (u : NameUse) → use_of name us ≡ Some u → without name (us ++ vs) ≡ without name us ++ vs
  without_first [] vs u is = absurd (none_some u is)
  without_first (x ∷ us) vs u is =
      elim (cases_Bool (bytes_eq x.name name)) [
        | inl equal ↦ rw equal refl
        | inr unequal ↦ rw unequal (ap (λ (ws : List NameUse). x ∷ ws) (without_first us vs u (rw unequal at is)))
      ]

  without_later : (us vs : List NameUse) → use_of name us ≡ None → without name (us ++ vs) ≡ us ++ without name vs
  without_later [] vs none = refl
  without_later (x ∷ us) vs none =
      elim (cases_Bool (bytes_eq x.name name)) [
        | inl equal ↦ absurd (some_none x (rw equal at none))
        | inr unequal ↦ rw unequal (ap (λ (ws : List NameUse). x ∷ ws) (without_later us vs (rw unequal at none)))
      ]

  -- nothing ends if there is no use of the name
  pub stays : (us : List NameUse) → use_of name us ≡ None → without name us ≡ us
  stays [] none = refl
  stays (x ∷ us) none =
      elim (cases_Bool (bytes_eq x.name name)) [
        | inl equal ↦ absurd (some_none x (rw equal at none))
        | inr unequal ↦ rw unequal (ap (λ (ws : List NameUse). x ∷ ws) (stays us (rw unequal at none)))
      ]

  alone : (v : NameUse) → use_of name (without name (v ∷ [])) ≡ None
  alone v =
      elim (cases_Bool (bytes_eq v.name name)) [
        | inl equal ↦ rw equal refl
        | inr unequal ↦ rw (unequal, unequal) refl
      ]

  entered_without : (now : ℕ) (us : List NameUse) → without name (let_in name now us) ≡ without name us
  entered_without now [] = refl
  entered_without now (x ∷ us) =
      elim (cases_Bool (bytes_eq x.name name)) [
        | inl equal ↦ rw (equal, its_own name) refl
        | inr unequal ↦ rw (unequal, unequal) (ap (λ (ws : List NameUse). x ∷ ws) (entered_without now us))
      ]

  module _ (other : List ℕ) (apart : name ≢ other) where
    -- a use of the other name is not of this one
    not_this : (x : NameUse) → bytes_eq x.name other ≡ true → bytes_eq x.name name ≡ false
    not_this x equal = differs x.name name (λ same. apart (sym same ∙ same_name x.name other equal))

    both_without : (us : List NameUse) → without name (without other us) ≡ without other (without name us)
    both_without [] = refl
    both_without (x ∷ us) =
        elim (cases_Bool (bytes_eq x.name other)) [
          | inl equal ↦ rw (equal, not_this x equal, equal) refl
          | inr unequal ↦
              elim (cases_Bool (bytes_eq x.name name)) [
                | inl here ↦ rw (unequal, here) refl
                | inr not_here ↦ rw (unequal, not_here, unequal) (ap (λ (ws : List NameUse). x ∷ ws) (both_without us))
              ]
        ]

    without_entered : (now : ℕ) (us : List NameUse) → without name (let_in other now us) ≡ let_in other now (without name us)
    without_entered now [] = refl
    without_entered now (x ∷ us) =
        elim (cases_Bool (bytes_eq x.name other)) [
          | inl equal ↦
              let new_one : bytes_eq other name ≡ false = differs other name (λ same. apart (sym same)) in
              rw (equal, not_this x equal, equal, new_one) refl
          | inr unequal ↦
              elim (cases_Bool (bytes_eq x.name name)) [
                | inl here ↦ rw (unequal, here) refl
                | inr not_here ↦ rw (unequal, not_here, unequal) (ap (λ (ws : List NameUse). x ∷ ws) (without_entered now us))
              ]
        ]

-- ---- Changes of a list

pub once_pushed : (us : List NameUse) (v : NameUse) → AreOnce us → use_of v.name us ≡ None → AreOnce (us ++ v ∷ [])
once_pushed us v once new = λ name. by name (use_of name us) refl
  where
    by : (name : List ℕ) (o : Option NameUse) → use_of name us ≡ o → use_of name (without name (us ++ v ∷ [])) ≡ None
    by name None is =
        ap (use_of name) (without_later name us (v ∷ []) is) ∙ (past name us (without name (v ∷ [])) is ∙ alone name v)
    by name (Some x) is =
        let other : bytes_eq v.name name ≡ false = differs v.name name (λ same. none_some x (sym new ∙ (ap (λ (n : List ℕ). use_of n us) same ∙ is))) in
        let last : use_of name (v ∷ []) ≡ None = rw other refl in
        ap (use_of name) (without_first name us (v ∷ []) x is) ∙ (past name (without name us) (v ∷ []) (once name) ∙ last)

pub once_ended : (us : List NameUse) (other : List ℕ) → AreOnce us → AreOnce (without other us)
once_ended us other once =
    λ name.
    elim (cases_Bool (bytes_eq name other)) [
      | inl equal ↦
          let same = same_name name other equal in
          let none : use_of name (without other us) ≡ None = (λ i. use_of name (without (sym same i) us)) ∙ once name in
          ap (use_of name) (stays name (without other us) none) ∙ none
      | inr unequal ↦
          let apart = not_it name other unequal in
          ap (use_of name) (both_without name other apart us) ∙ (after_end name other (without name us) apart ∙ once name)
    ]

pub once_entered : (us : List NameUse) (other : List ℕ) (now : ℕ) → AreOnce us → AreOnce (let_in other now us)
once_entered us other now once =
    λ name.
    elim (cases_Bool (bytes_eq name other)) [
      | inl equal ↦
          let same = same_name name other equal in
          (λ i. use_of name (without name (let_in (sym same i) now us))) ∙ (ap (use_of name) (entered_without name now us) ∙ once name)
      | inr unequal ↦
          let apart = not_it name other unequal in
          ap (use_of name) (without_entered name other apart now us) ∙ (after_other_entry name other now (without name us) apart ∙ once name)
    ]

-- ---- Turns

not_busy : (o : Option NameUse) (b : Bool) → cond (is_some o) (Some Busy) (cond b (Some Limit) None) ≡ None → o ≡ None
not_busy None b is = refl
not_busy (Some u) b is = absurd (cc)

distinct_with : (s : Clients) (j : ℕ) (us : List NameUse) → AreDistinct s → AreOnce us → AreDistinct (with_uses s j us)
distinct_with s j us distinct once = record { each = each }
  where
    each : (k : ℕ) → AreOnce ((with_uses s j us).uses_of k)
    each k =
        elim (cases_eq k j) [
          | inl same ↦ subst (λ (vs : List NameUse). AreOnce vs) (sym (at_same s j k us same)) once
          | inr apart ↦ subst (λ (vs : List NameUse). AreOnce vs) (sym (at_other s j k us apart)) (distinct.each k)
        ]

abbrev After : Clients → Turn → Type 0
After s t = AreDistinct s → AreDistinct t.clients

same_all : (s t : Clients) → ((k : ℕ) → t.uses_of k ≡ s.uses_of k) → AreDistinct s → AreDistinct t
same_all s t same distinct = record { each = λ k. subst (λ (vs : List NameUse). AreOnce vs) (sym (same k)) (distinct.each k) }

ended : (s : Clients) (j : ℕ) (name : List ℕ) → AreDistinct s → AreDistinct (with_uses s j (without name (s.uses_of j)))
ended s j name distinct = distinct_with s j (without name (s.uses_of j)) distinct (once_ended (s.uses_of j) name (distinct.each j))

module _ (l : Limits) where
  asks_distinct : (o : Option Refusal) (s : Clients) (c j : ℕ) (name : List ℕ) (mode : Mode) (until : Option ℕ) → lock_refusal name l.names (s.uses_of j) ≡ o → After s (asks_unless o s c j name mode until)
  asks_distinct (Some why) s c j name mode until is distinct = same_all s s (λ k. refl) distinct
  asks_distinct None s c j name mode until is distinct =
      let us = s.uses_of j in
      let v = new_use name s.now until in
      distinct_with s j (us ++ v ∷ []) distinct (once_pushed us v (distinct.each j) (not_busy (use_of name us) (nat_le l.names (length us)) is))

  locks_distinct : (o : Option ℕ) (unused : ℕ) (s : Clients) (c : ℕ) (name : List ℕ) (mode : Mode) (until : Option ℕ) → After s (locks_as o l unused s c name mode until)
  locks_distinct (Some j) unused s c name mode until = asks_distinct (lock_refusal name l.names (s.uses_of j)) s c j name mode until refl
  locks_distinct None unused s c name mode until =
      cond_both (is_full l s unused) _ _ (After s) (λ _ distinct. distinct)
      (λ _ distinct.
      asks_distinct (lock_refusal name l.names (s.uses_of unused)) (numbered s c unused) c unused name mode until refl
      (same_all s (numbered s c unused) (λ k. refl) distinct))

  unlocks_distinct : (o : Option NameUse) (s : Clients) (c j : ℕ) (name : List ℕ) → After s (unlocks_use o s c j name)
  unlocks_distinct None s c j name distinct = distinct
  unlocks_distinct (Some u) s c j name distinct = ended s j name distinct

  unlock_distinct : (o : Option ℕ) (s : Clients) (c : ℕ) (name : List ℕ) → After s (unlocks_as o s c name)
  unlock_distinct None s c name distinct = distinct
  unlock_distinct (Some j) s c name distinct = unlocks_distinct (use_of name (s.uses_of j)) s c j name distinct

  gone_same : (o : Option ℕ) (s : Clients) (c k : ℕ) → (unconnected o s c).uses_of k ≡ s.uses_of k
  gone_same None s c k = refl
  gone_same (Some j) s c k = refl

  pub distinct_after : (s : Clients) (e : Event) (t : Turn) → Turns l s e t → After s t
  distinct_after s (Lock c name mode within) t is =
      subst (After s) (sym is.2)
      (cond_both (s.is_closed c) _ _ (After s) (λ _ distinct. distinct) (λ _. locks_distinct (s.number_of c) is.0 s c name mode (until_at s.now within)))
  distinct_after s (Unlock c name) t is =
      subst (After s) (sym is) (cond_both (s.is_closed c) _ _ (After s) (λ _ distinct. distinct) (λ _. unlock_distinct (s.number_of c) s c name))
  distinct_after s (Bad c) t is = subst (After s) (sym is) (same_all s _ (λ k. refl))
  distinct_after s (Refuse j name why) t is =
      subst (After s) (sym is) (cond_both (waits_for name (s.uses_of j)) _ _ (After s) (λ _. ended s j name) (λ _ distinct. distinct))
  distinct_after s (Enter j name seq node) t is =
      subst (After s) (sym is)
      (cond_both (waits_for name (s.uses_of j)) _ _ (After s)
      (λ _ distinct. distinct_with s j (let_in name s.now (s.uses_of j)) distinct (once_entered (s.uses_of j) name s.now (distinct.each j)))
      (λ _ distinct. distinct))
  distinct_after s (Gone c) t is = subst (After s) (sym is) (same_all s (goes s c).clients (gone_same (s.number_of c) s c))
  distinct_after s (Time now) t is = subst (After s) (sym is) (same_all s _ (λ k. refl))
  distinct_after s Release t is = subst (After s) (sym is) (same_all s _ (λ k. refl))
  distinct_after s (Give_up j name) t is = subst (After s) (sym is.1) (ended s j name)
  distinct_after s (Give_back j name) t is = subst (After s) (sym is.1.2) (ended s j name)
