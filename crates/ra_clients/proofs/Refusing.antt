-- A turn that tells a refusal changes nothing, but for one in which the node refuses a name.
use Rattle.std.proofs.Common.{◌≡◌, ℕ, true, false, List, Option, Some, None, refl, sym, ap, subst, ◌∙◌, inl, inr}
use Rattle.std.specs.Prelude.{Contains, nat_le, ◌^◌, ◌||◌}
use Rattle.std.proofs.lemmas.Bool.{cond_both, false≢true, or_parts}
use Rattle.ra_stamp.specs.declared.mode.Mode.{Mode}
use Rattle.ra_host_text.specs.declared.answer.Answer.{Answer}
use Rattle.ra_host_text.specs.declared.answer.Answer.TheVariants.{Granted, Timeout, Unlocked, Refused}
use Rattle.ra_host_text.specs.declared.answer.Refusal.{Refusal}
use Rattle.ra_clients.specs.declared.uses.NameUse.{NameUse}
use Rattle.ra_clients.specs.Uses.{use_of, waits_for, lock_refusal}
use Rattle.ra_clients.specs.Clients.{Limits, Clients, Turn, Event, Turns, IsUnused, told, is_full, numbered, asks_unless, locks_as, until_at, unlocks_use, unlocks_as}
use Rattle.ra_clients.specs.Clients.Event.{Lock, Unlock, Bad, Refuse, Enter, Gone, Time, Release, Give_up, Give_back}
use Rattle.ra_clients.specs.Laws.{ChangesNothing, IsRefusedByNode, IsTakenBack}
use Rattle.ra_clients.proofs.Granting.{nothing_in, only_one}

-- a client with no name yet is refused by no limit, if it may have one
fresh : (l : Limits) (s : Clients) (k : ℕ) (other : List ℕ) → IsUnused s k → nat_le l.names 0 ≡ false → lock_refusal other l.names (s.uses_of k) ≡ None
fresh l s k other unused some = ap (lock_refusal other l.names) unused.no_uses ∙ rw some refl

module _ (c : ℕ) (name : List ℕ) (why : Refusal) where
  abbrev Tells : Turn → Type 0
  Tells t = Contains t.tells (c, Refused name why)

  abbrev Unchanged : Clients → Event → Turn → Type 0
  Unchanged s e t = Tells t → ChangesNothing s e c name why t

  -- another answer to whoever it is for
  not_granted : (o : Option ℕ) (other : List ℕ) (seq node : ℕ) → Contains (told o (Granted other seq node)) (c, Refused name why) → ⊥
  not_granted None other seq node has = nothing_in _ has
  not_granted (Some d) other seq node has = let same : Granted other seq node ≡ Refused name why = ap (λ (p : ℕ × Answer). p.1) (only_one _ _ has) in absurd (cc)

  not_timeout : (o : Option ℕ) (other : List ℕ) → Contains (told o (Timeout other)) (c, Refused name why) → ⊥
  not_timeout None other has = nothing_in _ has
  not_timeout (Some d) other has = let same : Timeout other ≡ Refused name why = ap (λ (p : ℕ × Answer). p.1) (only_one _ _ has) in absurd (cc)

  told_refusal : (o : Option ℕ) (other : List ℕ) (cause : Refusal) → Contains (told o (Refused other cause)) (c, Refused name why)
      → (o ≡ Some c) × (Refused other cause ≡ Refused name why)
  told_refusal None other cause has = absurd (nothing_in _ has)
  told_refusal (Some d) other cause has = let same = only_one _ _ has in (ap (λ (p : ℕ × Answer). Some p.0) same, ap (λ (p : ℕ × Answer). p.1) same)

  refused_by : (s : Clients) (j : ℕ) (other : List ℕ) (cause : Refusal) → waits_for other (s.uses_of j) ≡ true
      → (s.connection_of j ≡ Some c) × (Refused other cause ≡ Refused name why) → IsRefusedByNode s (Refuse j other cause) c name why
  refused_by s j other cause waiting (connection, same) =
      let its_name : other ≡ name = cc in
      record {
        number = j;
        event = cc;
        connection = connection;
        waited = subst (λ (n : List ℕ). waits_for n (s.uses_of j) ≡ true) its_name waiting;
      }

  asks_nothing : (o : Option Refusal) (e : Event) (s : Clients) (d j : ℕ) (other : List ℕ) (mode : Mode) (until : Option ℕ) → Unchanged s e (asks_unless o s d j other mode until)
  asks_nothing (Some cause) e s d j other mode until has = inl (refl, refl, refl)
  asks_nothing None e s d j other mode until has = absurd (nothing_in _ has)

  locks_nothing : (o : Option ℕ) (l : Limits) (unused : ℕ) (e : Event) (s : Clients) (d : ℕ) (other : List ℕ) (mode : Mode) (until : Option ℕ) → IsUnused s unused
      → Unchanged s e (locks_as o l unused s d other mode until)
  locks_nothing (Some j) l unused e s d other mode until is = asks_nothing (lock_refusal other l.names (s.uses_of j)) e s d j other mode until
  locks_nothing None l unused e s d other mode until is =
      cond_both (is_full l s unused) _ _ (Unchanged s e) (λ _ has. inl (refl, refl, refl))
      (λ room has.
      let none = fresh l s unused other is (or_parts (nat_le l.names 0) (nat_le (2 ^ 32) unused) (or_parts (nat_le l.clients s.count) (nat_le l.names 0 || nat_le (2 ^ 32) unused) room).1).0 in
      absurd
      (nothing_in (c, Refused name why)
      (subst (λ (o : Option Refusal). Tells (asks_unless o (numbered s d unused) d unused other mode until)) none has)))

  unlocks_nothing : (o : Option NameUse) (e : Event) (s : Clients) (d j : ℕ) (other : List ℕ) → Unchanged s e (unlocks_use o s d j other)
  unlocks_nothing None e s d j other has = inl (refl, refl, refl)
  unlocks_nothing (Some u) e s d j other has = let same : Unlocked other ≡ Refused name why = ap (λ (p : ℕ × Answer). p.1) (only_one _ _ has) in absurd (cc)

  unlock_nothing : (o : Option ℕ) (e : Event) (s : Clients) (d : ℕ) (other : List ℕ) → Unchanged s e (unlocks_as o s d other)
  unlock_nothing None e s d other has = inl (refl, refl, refl)
  unlock_nothing (Some j) e s d other has = unlocks_nothing (use_of other (s.uses_of j)) e s d j other has

  never : (s : Clients) (e : Event) (t u : Turn) → t ≡ u → (Tells u → ⊥) → Unchanged s e t
  never s e t u is quiet has = absurd (quiet (subst Tells is has))

  pub refused_nothing : (l : Limits) (s : Clients) (e : Event) (t : Turn) → Turns l s e t → Unchanged s e t
  refused_nothing l s (Lock d other mode within) t is =
      subst (Unchanged s (Lock d other mode within)) (sym is.2)
      (cond_both (s.is_closed d) _ _ (Unchanged s (Lock d other mode within)) (λ _ has. absurd (nothing_in _ has))
      (λ _. locks_nothing (s.number_of d) l is.0 (Lock d other mode within) s d other mode (until_at s.now within) is.1.unused))
  refused_nothing l s (Unlock d other) t is =
      subst (Unchanged s (Unlock d other)) (sym is)
      (cond_both (s.is_closed d) _ _ (Unchanged s (Unlock d other)) (λ _ has. absurd (nothing_in _ has))
      (λ _. unlock_nothing (s.number_of d) (Unlock d other) s d other))
  refused_nothing l s (Bad d) t is = never s _ t _ is (nothing_in _)
  refused_nothing l s (Refuse j other cause) t is =
      subst (Unchanged s (Refuse j other cause)) (sym is)
      (cond_both (waits_for other (s.uses_of j)) _ _ (Unchanged s (Refuse j other cause))
      (λ waiting has. inr (refused_by s j other cause waiting (told_refusal (s.connection_of j) other cause has)))
      (λ _ has. absurd (nothing_in _ has)))
  refused_nothing l s (Enter j other seq node) t is =
      never s _ t _ is
      (cond_both (waits_for other (s.uses_of j)) _ _ (λ (u : Turn). Tells u → ⊥) (λ _. not_granted (s.connection_of j) other seq node) (λ _. nothing_in _))
  refused_nothing l s (Gone d) t is = never s _ t _ is (nothing_in _)
  refused_nothing l s (Time now) t is = never s _ t _ is (nothing_in _)
  refused_nothing l s Release t is = never s _ t _ is (nothing_in _)
  refused_nothing l s (Give_up j other) t is = never s _ t _ is.1 (not_timeout (s.connection_of j) other)
  refused_nothing l s (Give_back j other) t is = never s _ t _ is.1.2 (nothing_in _)

-- what the node's refusal changes
pub taken_back : (l : Limits) (s : Clients) (t : Turn) (k : ℕ) (name : List ℕ) (why : Refusal) → Turns l s (Refuse k name why) t → IsTakenBack s k name t
taken_back l s t k name why is =
    subst (IsTakenBack s k name) (sym is)
    (cond_both (waits_for name (s.uses_of k)) _ _ (IsTakenBack s k name)
    (λ waiting. record { waited = λ _. refl; not_waited = λ none. absurd (false≢true (sym none ∙ waiting)); does = refl; closes = refl })
    (λ none. record { waited = λ waiting. absurd (false≢true (sym none ∙ waiting)); not_waited = λ _. refl; does = refl; closes = refl }))
