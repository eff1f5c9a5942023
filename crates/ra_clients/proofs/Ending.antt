-- When a node is to give a name back, and what is held over many turns.
use Rattle.std.proofs.Common.{◌≡◌, ◌⊎◌, ℕ, true, List, [], ◌∷◌, Option, Some, None, refl, sym, ap, subst, ◌∙◌, inl, inr}
use Rattle.std.proofs.lemmas.Bool.{cond_both, false≢true}
use Rattle.ra_stamp.specs.declared.mode.Mode.{Mode}
use Rattle.ra_book.specs.declared.book.event.BookKind.{BookKind}
use Rattle.ra_book.specs.declared.book.event.BookKind.TheVariants.{Leave}
use Rattle.ra_host_text.specs.declared.answer.Answer.TheVariants.{Unlocked}
use Rattle.ra_host_text.specs.declared.answer.Refusal.{Refusal}
use Rattle.ra_clients.specs.declared.uses.NameUse.{NameUse}
use Rattle.ra_clients.specs.declared.uses.Standing.{Standing}
use Rattle.ra_clients.specs.declared.uses.Standing.TheVariants.{Waits, Holds}
use Rattle.ra_clients.specs.Uses.{use_of, waits, waits_for, lock_refusal}
use Rattle.ra_clients.specs.Clients.{Limits, Clients, Turn, Event, Turns, IsLeaving, is_full, numbered, asks_unless, locks_as, until_at, given_back, unlocks_use, unlocks_as}
use Rattle.ra_clients.specs.Clients.Event.{Lock, Unlock, Bad, Refuse, Enter, Gone, Time, Release, Give_up, Give_back}
use Rattle.ra_clients.specs.Laws.{IsHolder, Lead, NeverLeaves, TellsUnlocked}
use Rattle.ra_clients.proofs.Holding.{lasts}

pub nothing : (kind : BookKind) → None ≡ Some kind → ⊥
nothing kind is = absurd (cc)

-- a name is given back by a leave only if it is held
pub given_is : (j k : ℕ) (other name : List ℕ) (standing : Standing) → Some (given_back j other standing) ≡ Some (Leave k name) → (j ≡ k) × (other ≡ name) × (standing ≡ Holds)
given_is j k other name (Waits until) is = absurd (cc)
given_is j k other name Holds is = (cc, cc, refl)

module _ (k : ℕ) (name : List ℕ) where
  abbrev Because : Clients → Turn → Type 0
  Because s t = t.does ≡ Some (Leave k name) → TellsUnlocked s k name t ⊎ IsLeaving s k

  idle : (s : Clients) (t : Turn) → t.does ≡ None → Because s t
  idle s t none is = absurd (nothing (Leave k name) (sym none ∙ is))

  asks_because : (s : Clients) (o : Option Refusal) (r : Clients) (c j : ℕ) (other : List ℕ) (mode : Mode) (until : Option ℕ) → Because s (asks_unless o r c j other mode until)
  asks_because s (Some why) r c j other mode until is = absurd (nothing (Leave k name) is)
  asks_because s None r c j other mode until is = absurd (cc)

  locks_because : (o : Option ℕ) (l : Limits) (unused : ℕ) (s : Clients) (c : ℕ) (other : List ℕ) (mode : Mode) (until : Option ℕ) → Because s (locks_as o l unused s c other mode until)
  locks_because (Some j) l unused s c other mode until = asks_because s (lock_refusal other l.names (s.uses_of j)) s c j other mode until
  locks_because None l unused s c other mode until =
      cond_both (is_full l s unused) _ _ (Because s) (λ _ is. absurd (nothing (Leave k name) is))
      (λ _. asks_because s (lock_refusal other l.names (s.uses_of unused)) (numbered s c unused) c unused other mode until)

  unlocks_because : (o : Option NameUse) (s : Clients) (c j : ℕ) (other : List ℕ) → s.number_of c ≡ Some j → Because s (unlocks_use o s c j other)
  unlocks_because None s c j other its is = absurd (nothing (Leave k name) is)
  unlocks_because (Some u) s c j other its is =
      let same = given_is j k other name u.standing is in
      inl
      (record {
        client = c;
        number = its ∙ ap (λ (i : ℕ). Some i) same.0;
        tells_it = ap (λ (n : List ℕ). (c, Unlocked n) ∷ []) same.1;
      })

  unlock_because : (o : Option ℕ) (s : Clients) (c : ℕ) (other : List ℕ) → s.number_of c ≡ o → Because s (unlocks_as o s c other)
  unlock_because None s c other its is = absurd (nothing (Leave k name) is)
  unlock_because (Some j) s c other its is = unlocks_because (use_of other (s.uses_of j)) s c j other its is

  never_past : (standing : Standing) (until : Option ℕ) → standing ≡ Waits until → standing ≡ Holds → ⊥
  never_past standing until is holds = false≢true (sym (ap waits holds) ∙ ap waits is)

  pub ends_by : (l : Limits) (s : Clients) (e : Event) (t : Turn) → Turns l s e t → Because s t
  ends_by l s (Lock c other mode within) t is =
      subst (Because s) (sym is.2)
      (cond_both (s.is_closed c) _ _ (Because s) (λ _ none. absurd (nothing (Leave k name) none))
      (λ _. locks_because (s.number_of c) l is.0 s c other mode (until_at s.now within)))
  ends_by l s (Unlock c other) t is =
      subst (Because s) (sym is)
      (cond_both (s.is_closed c) _ _ (Because s) (λ _ none. absurd (nothing (Leave k name) none))
      (λ _. unlock_because (s.number_of c) s c other refl))
  ends_by l s (Bad c) t is = idle s t (ap (λ (x : Turn). x.does) is)
  ends_by l s (Refuse j other why) t is =
      subst (Because s) (sym is)
      (cond_both (waits_for other (s.uses_of j)) _ _ (Because s) (λ _ none. absurd (nothing (Leave k name) none))
      (λ _ none. absurd (nothing (Leave k name) none)))
  ends_by l s (Enter j other seq node) t is =
      subst (Because s) (sym is)
      (cond_both (waits_for other (s.uses_of j)) _ _ (Because s) (λ _ none. absurd (nothing (Leave k name) none))
      (λ _ none. absurd (nothing (Leave k name) none)))
  ends_by l s (Gone c) t is = idle s t (ap (λ (x : Turn). x.does) is)
  ends_by l s (Time now) t is = idle s t (ap (λ (x : Turn). x.does) is)
  ends_by l s Release t is = idle s t (ap (λ (x : Turn). x.does) is)
  ends_by l s (Give_up j other) t is =
      λ does.
      let same = given_is j k other name is.0.waiting.standing (ap (λ (x : Turn). x.does) (sym is.1) ∙ does) in
      absurd (never_past is.0.waiting.standing (Some is.0.until) is.0.waits same.2)
  ends_by l s (Give_back j other) t is =
      λ does.
      let same = given_is j k other name is.1.0.standing (ap (λ (x : Turn). x.does) (sym is.1.2) ∙ does) in
      inr (subst (λ (i : ℕ). IsLeaving s i) same.0 is.0)

-- what is held is held over all turns in which it is not given back
pub held_over : (l : Limits) (k : ℕ) (name : List ℕ) (old new : Clients) (turns : List (Event × Turn)) → Lead l old turns new → IsHolder old k name → NeverLeaves k name turns → IsHolder new k name
held_over l k name old new [] lead held never = subst (λ (s : Clients). IsHolder s k name) (sym lead) held
held_over l k name old new (e ∷ es) lead held never =
    elim (lasts l old e.0 e.1 k name lead.0 held) [
      | inl still ↦ held_over l k name e.1.clients new es lead.1 still never.1
      | inr leaves ↦ absurd (never.0 leaves)
    ]
