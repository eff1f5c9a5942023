-- Which turns tell a client that it has a name no longer.
use Rattle.std.proofs.Common.{◌≡◌, ℕ, List, [], ◌∷◌, Option, Some, None, refl, sym, ap, subst, ◌∙◌}
use Rattle.std.specs.Prelude.{Contains}
use Rattle.std.proofs.lemmas.Bool.{cond_both}
use Rattle.ra_stamp.specs.declared.mode.Mode.{Mode}
use Rattle.ra_host_text.specs.declared.answer.Answer.{Answer}
use Rattle.ra_host_text.specs.declared.answer.Answer.TheVariants.{Granted, Timeout, Unlocked, Refused}
use Rattle.ra_host_text.specs.declared.answer.Refusal.{Refusal}
use Rattle.ra_host_text.specs.declared.answer.Refusal.TheVariants.{Limit, NotHeld}
use Rattle.ra_clients.specs.declared.uses.NameUse.{NameUse}
use Rattle.ra_clients.specs.Uses.{use_of, waits_for, without, lock_refusal}
use Rattle.ra_clients.specs.Clients.{Limits, Clients, Turn, Event, Turns, told, is_full, numbered, asks_unless, locks_as, until_at, given_back, unlocks_use, unlocks_as}
use Rattle.ra_clients.specs.Clients.Event.{Lock, Unlock, Bad, Refuse, Enter, Gone, Time, Release, Give_up, Give_back}
use Rattle.ra_clients.specs.Laws.{IsUnlock}
use Rattle.ra_clients.specs.AtNode.{AreDistinct}
use Rattle.ra_clients.proofs.Granting.{nothing_in, only_one}
use Rattle.ra_clients.proofs.Holding.{at_same}

module _ (c : ℕ) (name : List ℕ) where
  -- these do not tell it
  abbrev Silent : List (ℕ × Answer) → Type 0
  Silent xs = Contains xs (c, Unlocked name) → ⊥

  refused : (d : ℕ) (other : List ℕ) (why : Refusal) → Silent ((d, Refused other why) ∷ [])
  refused d other why has = let same : Refused other why ≡ Unlocked name = ap (λ (p : ℕ × Answer). p.1) (only_one _ _ has) in absurd (cc)

  granted : (o : Option ℕ) (other : List ℕ) (seq node : ℕ) → Silent (told o (Granted other seq node))
  granted None other seq node has = nothing_in _ has
  granted (Some d) other seq node has = let same : Granted other seq node ≡ Unlocked name = ap (λ (p : ℕ × Answer). p.1) (only_one _ _ has) in absurd (cc)

  timed_out : (o : Option ℕ) (other : List ℕ) → Silent (told o (Timeout other))
  timed_out None other has = nothing_in _ has
  timed_out (Some d) other has = let same : Timeout other ≡ Unlocked name = ap (λ (p : ℕ × Answer). p.1) (only_one _ _ has) in absurd (cc)

  taken_back : (o : Option ℕ) (other : List ℕ) (why : Refusal) → Silent (told o (Refused other why))
  taken_back None other why has = nothing_in _ has
  taken_back (Some d) other why has = refused d other why has

  abbrev Quiet : Turn → Type 0
  Quiet t = Silent t.tells

  asks_quiet : (o : Option Refusal) (s : Clients) (d j : ℕ) (other : List ℕ) (mode : Mode) (until : Option ℕ) → Quiet (asks_unless o s d j other mode until)
  asks_quiet (Some why) s d j other mode until has = refused d other why has
  asks_quiet None s d j other mode until has = nothing_in _ has

  locks_quiet : (o : Option ℕ) (l : Limits) (unused : ℕ) (s : Clients) (d : ℕ) (other : List ℕ) (mode : Mode) (until : Option ℕ) → Quiet (locks_as o l unused s d other mode until)
  locks_quiet (Some j) l unused s d other mode until = asks_quiet (lock_refusal other l.names (s.uses_of j)) s d j other mode until
  locks_quiet None l unused s d other mode until =
      cond_both (is_full l s unused) _ _ Quiet (λ _. refused d other Limit)
      (λ _. asks_quiet (lock_refusal other l.names (s.uses_of unused)) (numbered s d unused) d unused other mode until)

  abbrev Unlocks : Clients → Event → Turn → Type 0
  Unlocks s e t = Contains t.tells (c, Unlocked name) → IsUnlock s e c name t

  never : (s : Clients) (e : Event) (t u : Turn) → t ≡ u → Quiet u → Unlocks s e t
  never s e t u is quiet has = absurd (quiet (subst (λ (x : Turn). Contains x.tells (c, Unlocked name)) is has))

  unlocks_told : (o : Option NameUse) (s : Clients) (d j : ℕ) (other : List ℕ) → AreDistinct s → s.number_of d ≡ Some j → use_of other (s.uses_of j) ≡ o
      → Unlocks s (Unlock d other) (unlocks_use o s d j other)
  unlocks_told None s d j other once its has tells = absurd (refused d other NotHeld tells)
  unlocks_told (Some u) s d j other once its has tells =
      let same = only_one _ _ tells in
      let client : d ≡ c = ap (λ (p : ℕ × Answer). p.0) same in
      let answer : Unlocked other ≡ Unlocked name = ap (λ (p : ℕ × Answer). p.1) same in
      let its_name : other ≡ name = cc in
      let us = s.uses_of j in
      record {
        event = cc;
        number = j;
        number_is = ap s.number_of (sym client) ∙ its;
        had = u;
        had_is = ap (λ (n : List ℕ). use_of n us) (sym its_name) ∙ has;
        does = ap (λ (n : List ℕ). Some (given_back j n u.standing)) its_name;
        has_not =
            ap (use_of name) (at_same s j j (without other us) refl)
            ∙ (ap (λ (n : List ℕ). use_of name (without n us)) its_name ∙ once.each j name);
      }

  unlock_told : (o : Option ℕ) (s : Clients) (d : ℕ) (other : List ℕ) → AreDistinct s → s.number_of d ≡ o → Unlocks s (Unlock d other) (unlocks_as o s d other)
  unlock_told None s d other once its tells = absurd (refused d other NotHeld tells)
  unlock_told (Some j) s d other once its tells = unlocks_told (use_of other (s.uses_of j)) s d j other once its refl tells

  pub unlocked : (l : Limits) (s : Clients) (e : Event) (t : Turn) → Turns l s e t → AreDistinct s → Unlocks s e t
  unlocked l s (Lock d other mode within) t is once =
      never s _ t _ is.2
      (cond_both (s.is_closed d) _ _ Quiet (λ _. nothing_in _) (λ _. locks_quiet (s.number_of d) l is.0 s d other mode (until_at s.now within)))
  unlocked l s (Unlock d other) t is once =
      subst (Unlocks s (Unlock d other)) (sym is)
      (cond_both (s.is_closed d) _ _ (Unlocks s (Unlock d other)) (λ _ tells. absurd (nothing_in _ tells)) (λ _. unlock_told (s.number_of d) s d other once refl))
  unlocked l s (Bad d) t is once = never s _ t _ is (nothing_in _)
  unlocked l s (Refuse j other why) t is once =
      never s _ t _ is (cond_both (waits_for other (s.uses_of j)) _ _ Quiet (λ _. taken_back (s.connection_of j) other why) (λ _. nothing_in _))
  unlocked l s (Enter j other seq node) t is once =
      never s _ t _ is (cond_both (waits_for other (s.uses_of j)) _ _ Quiet (λ _. granted (s.connection_of j) other seq node) (λ _. nothing_in _))
  unlocked l s (Gone d) t is once = never s _ t _ is (nothing_in _)
  unlocked l s (Time now) t is once = never s _ t _ is (nothing_in _)
  unlocked l s Release t is once = never s _ t _ is (nothing_in _)
  unlocked l s (Give_up j other) t is once = never s _ t _ is.1 (timed_out (s.connection_of j) other)
  unlocked l s (Give_back j other) t is once = never s _ t _ is.1.2 (nothing_in _)
