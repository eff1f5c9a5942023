-- What becomes of a client's use of a name in a turn.
use Rattle.std.proofs.Common.{◌≡◌, ◌≢◌, ℕ, true, false, List, [], ◌∷◌, ◌++◌, Option, Some, None, refl, sym, ap, subst, ◌∙◌, inl, inr}
use Rattle.std.specs.Prelude.{◌⊎◌}
use Rattle.std.specs.Str.{bytes_eq}
use Rattle.std.proofs.lemmas.Bool.{cases_Bool, cases_eq, cond_both, eq-eqb, false≢true, ne_eqb}
use Rattle.std.proofs.lemmas.Option.{same_Some}
use Rattle.ra_stamp.specs.declared.mode.Mode.{Mode}
use Rattle.ra_host_text.specs.declared.answer.Answer.{Answer}
use Rattle.ra_host_text.specs.declared.answer.Answer.TheVariants.{Timeout, Unlocked, Refused}
use Rattle.ra_host_text.specs.declared.answer.Refusal.{Refusal}
use Rattle.ra_clients.specs.declared.uses.NameUse.{NameUse}
use Rattle.ra_clients.specs.declared.uses.Standing.TheVariants.{Holds}
use Rattle.ra_clients.specs.Uses.{use_of, waits, waits_for, waits_if_some, new_use, let_in, held_use, without, lock_refusal}
use Rattle.ra_clients.specs.Clients.{Limits, Clients, Turn, Event, Turns, with_uses, is_full, numbered, asks_unless, locks_as, until_at, told, given_back, ends, unlocks_use, unlocks_as, closes, unconnected, goes}
use Rattle.ra_clients.specs.Clients.Event.{Lock, Unlock, Bad, Refuse, Enter, Gone, Time, Release, Give_up, Give_back}
use Rattle.ra_clients.specs.Laws.{IsHolder, HoldsOrLeaves, HasStill, IsRefused, IsAccountedFor}
use Rattle.ra_clients.proofs.NamedUses.{its_own, same_name, after_push, after_end, after_other_entry, after_entry}

-- the other clients have their uses
pub at_other : (s : Clients) (j k : ℕ) (us : List NameUse) → k ≢ j → (with_uses s j us).uses_of k ≡ s.uses_of k
at_other s j k us apart = rw (ne_eqb k j apart) refl

pub at_same : (s : Clients) (j k : ℕ) (us : List NameUse) → k ≡ j → (with_uses s j us).uses_of k ≡ us
at_same s j k us same = rw (eq-eqb k j same) refl

-- no other name is the same
pub not_it : (name other : List ℕ) → bytes_eq name other ≡ false → name ≢ other
not_it name other unequal same = false≢true (sym unequal ∙ ap (bytes_eq name) (sym same) ∙ its_own name)

module _ (u : NameUse) (s : Clients) (k : ℕ) (name : List ℕ) (has : use_of name (s.uses_of k) ≡ Some u) where
  -- the client's uses stay
  same_uses : (t : Clients) → t.uses_of k ≡ s.uses_of k → HasStill u t k name
  same_uses t same = record { use_now = u; is = ap (use_of name) same ∙ has; holds = λ is. is }

  -- the uses of client j change
  changed : (j : ℕ) (us : List NameUse) (v : NameUse) → (k ≡ j → use_of name us ≡ Some v) → (u.standing ≡ Holds → v.standing ≡ Holds) → HasStill u (with_uses s j us) k name
  changed j us v is still =
      elim (cases_eq k j) [
        | inl same ↦ record { use_now = v; is = ap (use_of name) (at_same s j k us same) ∙ is same; holds = still }
        | inr apart ↦ same_uses (with_uses s j us) (at_other s j k us apart)
      ]

  has_at : (j : ℕ) → k ≡ j → use_of name (s.uses_of j) ≡ Some u
  has_at j same = subst (λ (i : ℕ). use_of name (s.uses_of i) ≡ Some u) same has

module _ (u : NameUse) (e : Event) (k : ℕ) (name : List ℕ) where
  abbrev Accounts : Turn → Type 0
  Accounts t = IsAccountedFor u e k name t

  abbrev Has : Clients → Type 0
  Has s = use_of name (s.uses_of k) ≡ Some u

  asks_stay : (o : Option Refusal) (s : Clients) (c j : ℕ) (other : List ℕ) (mode : Mode) (until : Option ℕ) → Has s → Accounts (asks_unless o s c j other mode until)
  asks_stay (Some why) s c j other mode until has = inl (same_uses u s k name has s refl)
  asks_stay None s c j other mode until has =
      inl
      (changed u s k name has j (s.uses_of j ++ new_use other s.now until ∷ []) u
      (λ same. after_push name (s.uses_of j) (new_use other s.now until ∷ []) u (has_at u s k name has j same))
      (λ is. is))

  locks_stay : (o : Option ℕ) (l : Limits) (unused : ℕ) (s : Clients) (c : ℕ) (other : List ℕ) (mode : Mode) (until : Option ℕ) → Has s → Accounts (locks_as o l unused s c other mode until)
  locks_stay (Some j) l unused s c other mode until has = asks_stay (lock_refusal other l.names (s.uses_of j)) s c j other mode until has
  locks_stay None l unused s c other mode until has =
      cond_both (is_full l s unused) _ _ Accounts (λ _. inl (same_uses u s k name has s refl))
      (λ _. asks_stay (lock_refusal other l.names (s.uses_of unused)) (numbered s c unused) c unused other mode until has)

  -- a use ends
  ends_stay : (s : Clients) (j : ℕ) (other : List ℕ) (x : NameUse) (told : List (ℕ × Answer)) → use_of other (s.uses_of j) ≡ Some x → Has s → Accounts (ends s j other x.standing told)
  ends_stay s j other x told is has =
      elim (cases_eq k j) [
        | inl same ↦
            elim (cases_Bool (bytes_eq name other)) [
              | inl equal ↦
                  let its_name = same_name name other equal in
                  let it : Some x ≡ Some u = sym is ∙ ((λ i. use_of (sym its_name i) (s.uses_of j)) ∙ has_at u s k name has j same) in
                  let standing : x.standing ≡ u.standing = ap (λ (v : NameUse). v.standing) (same_Some x u it) in
                  inr (inl (λ i. Some (given_back (sym same i) (sym its_name i) (standing i))))
              | inr unequal ↦
                  inl
                  (changed u s k name has j (without other (s.uses_of j)) u
                  (λ eq. after_end name other (s.uses_of j) (not_it name other unequal) ∙ has_at u s k name has j eq)
                  (λ is. is))
            ]
        | inr apart ↦ inl (changed u s k name has j (without other (s.uses_of j)) u (λ same. absurd (apart same)) (λ is. is))
      ]

  unlocks_stay : (o : Option NameUse) (s : Clients) (c j : ℕ) (other : List ℕ) → use_of other (s.uses_of j) ≡ o → Has s → Accounts (unlocks_use o s c j other)
  unlocks_stay None s c j other is has = inl (same_uses u s k name has s refl)
  unlocks_stay (Some x) s c j other is has = ends_stay s j other x ((c, Unlocked other) ∷ []) is has

  unlock_stays : (o : Option ℕ) (s : Clients) (c : ℕ) (other : List ℕ) → Has s → Accounts (unlocks_as o s c other)
  unlock_stays None s c other has = inl (same_uses u s k name has s refl)
  unlock_stays (Some j) s c other has = unlocks_stay (use_of other (s.uses_of j)) s c j other refl has

  entry_stays : (s : Clients) (j : ℕ) (other : List ℕ) → Has s → HasStill u (with_uses s j (let_in other s.now (s.uses_of j))) k name
  entry_stays s j other has =
      elim (cases_Bool (bytes_eq name other)) [
        | inl equal ↦
            let its_name = same_name name other equal in
            changed u s k name has j (let_in other s.now (s.uses_of j)) (held_use name s.now)
            (λ same. (λ i. use_of name (let_in (sym its_name i) s.now (s.uses_of j))) ∙ after_entry name s.now (s.uses_of j) u (has_at u s k name has j same))
            (λ is. refl)
        | inr unequal ↦
            changed u s k name has j (let_in other s.now (s.uses_of j)) u
            (λ same. after_other_entry name other s.now (s.uses_of j) (not_it name other unequal) ∙ has_at u s k name has j same)
            (λ is. is)
      ]

  refusal_stays : (s : Clients) (j : ℕ) (other : List ℕ) (why : Refusal) → e ≡ Refuse j other why → waits_for other (s.uses_of j) ≡ true → Has s
      → HasStill u (with_uses s j (without other (s.uses_of j))) k name ⊎ IsRefused u e k name
  refusal_stays s j other why event waiting has =
      elim (cases_eq k j) [
        | inl same ↦
            elim (cases_Bool (bytes_eq name other)) [
              | inl equal ↦
                  let its_name = same_name name other equal in
                  let it : use_of other (s.uses_of j) ≡ Some u = (λ i. use_of (sym its_name i) (s.uses_of j)) ∙ has_at u s k name has j same in
                  inr
                  (record {
                    why = why;
                    event = event ∙ (λ i. Refuse (sym same i) (sym its_name i) why);
                    waited = sym (ap waits_if_some it) ∙ waiting;
                  })
              | inr unequal ↦
                  inl
                  (changed u s k name has j (without other (s.uses_of j)) u
                  (λ eq. after_end name other (s.uses_of j) (not_it name other unequal) ∙ has_at u s k name has j eq)
                  (λ is. is))
            ]
        | inr apart ↦ inl (changed u s k name has j (without other (s.uses_of j)) u (λ same. absurd (apart same)) (λ is. is))
      ]

  or_refused : (t : Turn) → HasStill u t.clients k name ⊎ IsRefused u e k name → Accounts t
  or_refused t (inl still) = inl still
  or_refused t (inr refused) = inr (inr refused)

  goes_stay : (o : Option ℕ) (s : Clients) (c : ℕ) → (unconnected o s c).uses_of k ≡ s.uses_of k
  goes_stay None s c = refl
  goes_stay (Some j) s c = refl

accounts_by : (u : NameUse) (e' : Event) (k : ℕ) (name : List ℕ) (l : Limits) (s : Clients) (e : Event) (t : Turn) → e' ≡ e → Turns l s e t → use_of name (s.uses_of k) ≡ Some u → IsAccountedFor u e' k name t
accounts_by u e' k name l s (Lock c other mode within) t eq is has =
    subst (Accounts u e' k name) (sym is.2)
    (cond_both (s.is_closed c) _ _ (Accounts u e' k name) (λ _. inl (same_uses u s k name has s refl))
    (λ _. locks_stay u e' k name (s.number_of c) l is.0 s c other mode (until_at s.now within) has))
accounts_by u e' k name l s (Unlock c other) t eq is has =
    subst (Accounts u e' k name) (sym is)
    (cond_both (s.is_closed c) _ _ (Accounts u e' k name) (λ _. inl (same_uses u s k name has s refl))
    (λ _. unlock_stays u e' k name (s.number_of c) s c other has))
accounts_by u e' k name l s (Bad c) t eq is has = subst (Accounts u e' k name) (sym is) (inl (same_uses u s k name has (closes s c).clients refl))
accounts_by u e' k name l s (Refuse j other why) t eq is has =
    subst (Accounts u e' k name) (sym is)
    (cond_both (waits_for other (s.uses_of j)) _ _ (Accounts u e' k name)
    (λ waiting.
    or_refused u e' k name
    (record {
      clients = with_uses s j (without other (s.uses_of j));
      tells = told (s.connection_of j) (Refused other why);
      does = None;
      closes = false;
    })
    (refusal_stays u e' k name s j other why eq waiting has))
    (λ _. inl (same_uses u s k name has s refl)))
accounts_by u e' k name l s (Enter j other seq node) t eq is has =
    subst (Accounts u e' k name) (sym is)
    (cond_both (waits_for other (s.uses_of j)) _ _ (Accounts u e' k name)
    (λ waiting. inl (entry_stays u e' k name s j other has))
    (λ _. inl (same_uses u s k name has s refl)))
accounts_by u e' k name l s (Gone c) t eq is has =
    subst (Accounts u e' k name) (sym is) (inl (same_uses u s k name has (goes s c).clients (goes_stay u e' k name (s.number_of c) s c)))
accounts_by u e' k name l s (Time now) t eq is has = subst (Accounts u e' k name) (sym is) (inl (same_uses u s k name has _ refl))
accounts_by u e' k name l s Release t eq is has = subst (Accounts u e' k name) (sym is) (inl (same_uses u s k name has _ refl))
accounts_by u e' k name l s (Give_up j other) t eq is has = subst (Accounts u e' k name) (sym is.1) (ends_stay u e' k name s j other is.0.waiting (told (s.connection_of j) (Timeout other)) is.0.is has)
accounts_by u e' k name l s (Give_back j other) t eq is has = subst (Accounts u e' k name) (sym is.1.2) (ends_stay u e' k name s j other is.1.0 [] is.1.1 has)

-- a use is lost in no turn
pub accounted : (l : Limits) (s : Clients) (e : Event) (t : Turn) (k : ℕ) (name : List ℕ) (u : NameUse) → Turns l s e t → use_of name (s.uses_of k) ≡ Some u → IsAccountedFor u e k name t
accounted l s e t k name u is has = accounts_by u e k name l s e t refl is has

-- what is held is held until its node is to give it back
pub lasts : (l : Limits) (s : Clients) (e : Event) (t : Turn) (k : ℕ) (name : List ℕ) → Turns l s e t → IsHolder s k name → HoldsOrLeaves k name t
lasts l s e t k name is h =
    elim (accounted l s e t k name h.use_now is h.is) [
      | inl still ↦ inl (record { use_now = still.use_now; is = still.is; holds = still.holds h.holds })
      | inr other ↦
          elim other [
            | inl given ↦ inr (given ∙ (λ i. Some (given_back k name (h.holds i))))
            | inr refused ↦ absurd (false≢true (sym (ap waits h.holds) ∙ refused.waited))
          ]
    ]
