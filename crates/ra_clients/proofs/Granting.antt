-- Which turns tell a client that it holds a name.
use Rattle.std.proofs.Common.{◌≡◌, ℕ, zero, suc, true, List, [], ◌∷◌, Option, Some, None, refl, sym, ap, subst, ◌∙◌, arith}
use Rattle.std.specs.Prelude.{Contains}
use Rattle.std.proofs.lemmas.Bool.{cond_both, false≢true}
use Rattle.ra_stamp.specs.declared.mode.Mode.{Mode}
use Rattle.ra_host_text.specs.declared.answer.Answer.{Answer}
use Rattle.ra_host_text.specs.declared.answer.Answer.TheVariants.{Granted, Timeout, Unlocked, Refused}
use Rattle.ra_host_text.specs.declared.answer.Refusal.{Refusal}
use Rattle.ra_host_text.specs.declared.answer.Refusal.TheVariants.{Limit, NotHeld}
use Rattle.ra_clients.specs.declared.uses.NameUse.{NameUse}
use Rattle.ra_clients.specs.Uses.{use_of, waits_for, waits_if_some, let_in, held_use, lock_refusal}
use Rattle.ra_clients.specs.Clients.{Limits, Clients, Turn, Event, Turns, told, with_uses, is_full, numbered, asks_unless, locks_as, until_at, unlocks_use, unlocks_as}
use Rattle.ra_clients.specs.Clients.Event.{Lock, Unlock, Bad, Refuse, Enter, Gone, Time, Release, Give_up, Give_back}
use Rattle.ra_clients.specs.Laws.{IsHolder, IsGrant, TellsGranted}
use Rattle.ra_clients.proofs.Holding.{at_same}
use Rattle.ra_clients.proofs.NamedUses.{after_entry}

pub nothing_in : (x : ℕ × Answer) → Contains [] x → ⊥
nothing_in x (k, low, is) = absurd (omega (arith, low))

pub only_one : (x y : ℕ × Answer) → Contains (x ∷ []) y → x ≡ y
only_one x y (zero, low, is) = is
only_one x y (suc k, low, is) = absurd (omega (arith, low))

-- the use for which a client waits
waited : (o : Option NameUse) → waits_if_some o ≡ true → (u : NameUse) × (o ≡ Some u)
waited None is = absurd (false≢true is)
waited (Some u) is = (u, refl)

module _ (c : ℕ) (name : List ℕ) (seq node : ℕ) where
  -- these do not tell it
  abbrev Silent : List (ℕ × Answer) → Type 0
  Silent xs = Contains xs (c, Granted name seq node) → ⊥

  refused : (d : ℕ) (other : List ℕ) (why : Refusal) → Silent ((d, Refused other why) ∷ [])
  refused d other why has = let same : Refused other why ≡ Granted name seq node = ap (λ (p : ℕ × Answer). p.1) (only_one _ _ has) in absurd (cc)

  unlocked : (d : ℕ) (other : List ℕ) → Silent ((d, Unlocked other) ∷ [])
  unlocked d other has = let same : Unlocked other ≡ Granted name seq node = ap (λ (p : ℕ × Answer). p.1) (only_one _ _ has) in absurd (cc)

  timed_out : (o : Option ℕ) (other : List ℕ) → Silent (told o (Timeout other))
  timed_out None other has = nothing_in _ has
  timed_out (Some d) other has = let same : Timeout other ≡ Granted name seq node = ap (λ (p : ℕ × Answer). p.1) (only_one _ _ has) in absurd (cc)

  taken_back : (o : Option ℕ) (other : List ℕ) (why : Refusal) → Silent (told o (Refused other why))
  taken_back None other why has = nothing_in _ has
  taken_back (Some d) other why has = refused d other why has

  abbrev Quiet : Turn → Type 0
  Quiet t = Silent t.tells

  asks_quiet : (o : Option Refusal) (s : Clients) (d j : ℕ) (other : List ℕ) (mode : Mode) (until : Option ℕ) → Quiet (asks_unless o s d j other mode until)
  asks_quiet (Some why) s d j other mode until has = refused d other why has
  asks_quiet None s d j other mode until has = nothing_in _ has

  locks_quiet : (o : Option ℕ) (l : Limits) (unused : ℕ) (s : Clients) (d : ℕ) (other : List ℕ) (mode : Mode) (until : Option ℕ) → Quiet (locks_as o l unused s d other mode until)
  locks_quiet (Some j) l unused s d other mode until = asks_quiet (lock_refusal other l.names (s.uses_of j)) s d j other mode until
  locks_quiet None l unused s d other mode until =
      cond_both (is_full l s unused) _ _ Quiet (λ _. refused d other Limit)
      (λ _. asks_quiet (lock_refusal other l.names (s.uses_of unused)) (numbered s d unused) d unused other mode until)

  unlocks_quiet : (o : Option NameUse) (s : Clients) (d j : ℕ) (other : List ℕ) → Quiet (unlocks_use o s d j other)
  unlocks_quiet None s d j other has = refused d other NotHeld has
  unlocks_quiet (Some u) s d j other has = unlocked d other has

  unlock_quiet : (o : Option ℕ) (s : Clients) (d : ℕ) (other : List ℕ) → Quiet (unlocks_as o s d other)
  unlock_quiet None s d other has = refused d other NotHeld has
  unlock_quiet (Some j) s d other has = unlocks_quiet (use_of other (s.uses_of j)) s d j other has

  -- who is told, and of what
  told_grant : (o : Option ℕ) (other : List ℕ) (number at : ℕ) → Contains (told o (Granted other number at)) (c, Granted name seq node)
      → (o ≡ Some c) × (Granted other number at ≡ Granted name seq node)
  told_grant None other number at has = absurd (nothing_in _ has)
  told_grant (Some d) other number at has = let same = only_one _ _ has in (ap (λ (p : ℕ × Answer). Some p.0) same, ap (λ (p : ℕ × Answer). p.1) same)

  granted_by : (s : Clients) (j : ℕ) (other : List ℕ) (number at : ℕ) (t : Turn)
      → waits_for other (s.uses_of j) ≡ true → t.clients ≡ with_uses s j (let_in other s.now (s.uses_of j))
      → (s.connection_of j ≡ Some c) × (Granted other number at ≡ Granted name seq node) → IsGrant s (Enter j other number at) c name seq node t
  granted_by s j other number at t waiting is (connection, same) =
      let (u, has) = waited (use_of other (s.uses_of j)) waiting in
      let its_name : other ≡ name = cc in
      let held : use_of other (t.clients.uses_of j) ≡ Some (held_use other s.now) =
      ap (λ (x : Clients). use_of other (x.uses_of j)) is
      ∙ (ap (use_of other) (at_same s j j (let_in other s.now (s.uses_of j)) refl) ∙ after_entry other s.now (s.uses_of j) u has)
      in
      record {
        number = j;
        event = cc;
        connection = connection;
        waited = subst (λ (n : List ℕ). waits_for n (s.uses_of j) ≡ true) its_name waiting;
        holds = subst (λ (n : List ℕ). IsHolder t.clients j n) its_name (record { use_now = held_use other s.now; is = held; holds = refl });
      }

  abbrev Grants : Clients → Event → Turn → Type 0
  Grants s e t = TellsGranted t c name seq node → IsGrant s e c name seq node t

  never : (s : Clients) (e : Event) (t u : Turn) → t ≡ u → Quiet u → Grants s e t
  never s e t u is quiet has = absurd (quiet (subst (λ (x : Turn). Contains x.tells (c, Granted name seq node)) is has))

  pub granted : (l : Limits) (s : Clients) (e : Event) (t : Turn) → Turns l s e t → Grants s e t
  granted l s (Lock d other mode within) t is =
      never s _ t _ is.2
      (cond_both (s.is_closed d) _ _ Quiet (λ _. nothing_in _) (λ _. locks_quiet (s.number_of d) l is.0 s d other mode (until_at s.now within)))
  granted l s (Unlock d other) t is =
      never s _ t _ is (cond_both (s.is_closed d) _ _ Quiet (λ _. nothing_in _) (λ _. unlock_quiet (s.number_of d) s d other))
  granted l s (Bad d) t is = never s _ t _ is (nothing_in _)
  granted l s (Refuse j other why) t is =
      never s _ t _ is (cond_both (waits_for other (s.uses_of j)) _ _ Quiet (λ _. taken_back (s.connection_of j) other why) (λ _. nothing_in _))
  granted l s (Enter j other number at) t is =
      subst (Grants s (Enter j other number at)) (sym is)
      (cond_both (waits_for other (s.uses_of j)) _ _ (Grants s (Enter j other number at))
      (λ waiting has. granted_by s j other number at _ waiting refl (told_grant (s.connection_of j) other number at has))
      (λ _ has. absurd (nothing_in _ has)))
  granted l s (Gone d) t is = never s _ t _ is (nothing_in _)
  granted l s (Time now) t is = never s _ t _ is (nothing_in _)
  granted l s Release t is = never s _ t _ is (nothing_in _)
  granted l s (Give_up j other) t is = never s _ t _ is.1 (timed_out (s.connection_of j) other)
  granted l s (Give_back j other) t is = never s _ t _ is.1.2 (nothing_in _)
