-- Who has which number, and what becomes of a client that is gone.
use Rattle.std.proofs.Common.{◌≡◌, ◌≢◌, ℕ, false, List, [], Option, Some, None, refl, sym, ap, subst, ◌∙◌, inl, inr}
use Rattle.std.proofs.lemmas.Bool.{cases_eq, cond_both, eq-eqb, ne_eqb}
use Rattle.std.proofs.lemmas.Option.{same_Some}
use Rattle.ra_stamp.specs.declared.mode.Mode.{Mode}
use Rattle.ra_host_text.specs.declared.answer.Refusal.{Refusal}
use Rattle.ra_clients.specs.declared.uses.NameUse.{NameUse}
use Rattle.ra_clients.specs.Uses.{use_of, waits_for, without, lock_refusal}
use Rattle.ra_clients.specs.Clients.{Limits, Clients, Turn, Event, Turns, IsUnused, IsLeaving, is_full, numbered, asks_unless, locks_as, until_at, unlocks_use, unlocks_as, unconnected, gives_back}
use Rattle.ra_clients.specs.Clients.Event.{Lock, Unlock, Bad, Refuse, Enter, Gone, Time, Release, Give_up, Give_back}
use Rattle.ra_clients.specs.Laws.{CanGiveBack, IsSound, IsUnconnected}
use Rattle.ra_clients.proofs.Holding.{at_same}
use Rattle.ra_clients.proofs.NamedUses.{none_some}

-- connections and numbers stay, and no further client is kept
record SameNumbers (s t : Clients) : Type 0 where
  number : (c : ℕ) → t.number_of c ≡ s.number_of c
  connection : (k : ℕ) → t.connection_of k ≡ s.connection_of k
  kept : (k : ℕ) → s.is_kept k ≡ false → t.is_kept k ≡ false

-- a client that leaves goes on leaving
abbrev pub KeepsLeaving : ℕ → Clients → Clients → Type 0
KeepsLeaving k s t = IsLeaving s k → s.uses_of k ≢ [] → IsLeaving t k

-- what a turn keeps
pub record Keeps (k : ℕ) (s t : Clients) : Type 0 where
  pub sound : IsSound s → IsSound t
  pub leaving : KeepsLeaving k s t

sound_same : (s t : Clients) → SameNumbers s t → IsSound s → IsSound t
sound_same s t same sound = record {
  each = λ c k is. same.connection k ∙ sound.each c k (sym (same.number c) ∙ is);
  not_kept = λ c k is. same.kept k (sound.not_kept c k (sym (same.connection k) ∙ is));
}

keeps_same : (k : ℕ) (s t : Clients) → SameNumbers s t → Keeps k s t
keeps_same k s t same = record {
  sound = sound_same s t same;
  leaving = λ is some. record { no_connection = same.connection k ∙ is.no_connection; not_kept = same.kept k is.not_kept };
}

stays : (s : Clients) → SameNumbers s s
stays s = record { number = λ c. refl; connection = λ k. refl; kept = λ k is. is }

keeps_all : (k : ℕ) (s : Clients) → Keeps k s s
keeps_all k s = keeps_same k s s (stays s)

keeps_both : (k : ℕ) (s t u : Clients) → t.uses_of k ≡ s.uses_of k → Keeps k s t → Keeps k t u → Keeps k s u
keeps_both k s t u same a b = record {
  sound = λ is. b.sound (a.sound is);
  leaving = λ is some. b.leaving (a.leaving is some) (λ none. some (sym same ∙ none));
}

-- a connection gets a number that nobody has
module _ (s : Clients) (c j : ℕ) (unused : IsUnused s j) where
  number_sound : IsSound s → IsSound (numbered s c j)
  number_sound sound = record { each = each; not_kept = not_kept }
    where
      not_kept : (d k : ℕ) → (numbered s c j).connection_of k ≡ Some d → (numbered s c j).is_kept k ≡ false
      not_kept d k is =
          elim (cases_eq k j) [
            | inl same ↦ rw (eq-eqb k j same) refl
            | inr apart ↦ rw (ne_eqb k j apart) (sound.not_kept d k (rw (ne_eqb k j apart) at is))
          ]

      each : (d k : ℕ) → (numbered s c j).number_of d ≡ Some k → (numbered s c j).connection_of k ≡ Some d
      each d k is =
          elim (cases_eq d c) [
            | inl same ↦
                let it : Some j ≡ Some k = rw (eq-eqb d c same) at is in
                rw (eq-eqb k j (sym (same_Some j k it))) (ap (λ (x : ℕ). Some x) (sym same))
            | inr apart ↦
                let was : s.number_of d ≡ Some k = rw (ne_eqb d c apart) at is in
                let connected = sound.each d k was in
                let other : k ≢ j = λ same. none_some d (sym unused.no_connection ∙ (ap s.connection_of (sym same) ∙ connected)) in
                rw (ne_eqb k j other) connected
          ]

  keeps_numbered : (k : ℕ) → Keeps k s (numbered s c j)
  keeps_numbered k = record {
    sound = number_sound;
    leaving = λ is some.
        let other : k ≢ j = λ same. some (ap s.uses_of same ∙ unused.no_uses) in
        record { no_connection = rw (ne_eqb k j other) is.no_connection; not_kept = rw (ne_eqb k j other) is.not_kept };
  }

-- a connection ends
module _ (s : Clients) (c j : ℕ) (its : s.number_of c ≡ Some j) where
  gone_sound : IsSound s → IsSound (unconnected (Some j) s c)
  gone_sound sound = record { each = each; not_kept = not_kept }
    where
      not_kept : (d k : ℕ) → (unconnected (Some j) s c).connection_of k ≡ Some d → s.is_kept k ≡ false
      not_kept d k is =
          elim (cases_eq k j) [
            | inl same ↦ absurd (none_some d (rw (eq-eqb k j same) at is))
            | inr apart ↦ sound.not_kept d k (rw (ne_eqb k j apart) at is)
          ]

      each : (d k : ℕ) → (unconnected (Some j) s c).number_of d ≡ Some k → (unconnected (Some j) s c).connection_of k ≡ Some d
      each d k is =
          elim (cases_eq d c) [
            | inl same ↦ absurd (none_some k (rw (eq-eqb d c same) at is))
            | inr apart ↦
                let was : s.number_of d ≡ Some k = rw (ne_eqb d c apart) at is in
                let connected = sound.each d k was in
                let other : k ≢ j = λ same. apart (same_Some d c (sym connected ∙ (ap s.connection_of same ∙ sound.each c j its))) in
                rw (ne_eqb k j other) connected
          ]

  gone_connection : (k : ℕ) → s.connection_of k ≡ None → (unconnected (Some j) s c).connection_of k ≡ None
  gone_connection k is =
      elim (cases_eq k j) [
        | inl same ↦ rw (eq-eqb k j same) refl
        | inr apart ↦ rw (ne_eqb k j apart) is
      ]

  keeps_gone : (k : ℕ) → Keeps k s (unconnected (Some j) s c)
  keeps_gone k = record { sound = gone_sound; leaving = λ is some. record { no_connection = gone_connection k is.no_connection; not_kept = is.not_kept } }

keeps_unconnected : (k : ℕ) (o : Option ℕ) (s : Clients) (c : ℕ) → s.number_of c ≡ o → Keeps k s (unconnected o s c)
keeps_unconnected k None s c is = keeps_all k s
keeps_unconnected k (Some j) s c is = keeps_gone s c j is k

uses_unconnected : (k : ℕ) (o : Option ℕ) (s : Clients) (c : ℕ) → (unconnected o s c).uses_of k ≡ s.uses_of k
uses_unconnected k None s c = refl
uses_unconnected k (Some j) s c = refl

-- ---- Turns

module _ (k : ℕ) (s : Clients) where
  abbrev KeepsIn : Turn → Type 0
  KeepsIn t = Keeps k s t.clients

  asks_keep : (o : Option Refusal) (r : Clients) (c j : ℕ) (name : List ℕ) (mode : Mode) (until : Option ℕ) → Keeps k r (asks_unless o r c j name mode until).clients
  asks_keep (Some why) r c j name mode until = keeps_all k r
  asks_keep None r c j name mode until = keeps_same k r _ (record { number = λ d. refl; connection = λ i. refl; kept = λ i is. is })

  locks_keep : (o : Option ℕ) (l : Limits) (unused : ℕ) (c : ℕ) (name : List ℕ) (mode : Mode) (until : Option ℕ) → IsUnused s unused → KeepsIn (locks_as o l unused s c name mode until)
  locks_keep (Some j) l unused c name mode until is = asks_keep (lock_refusal name l.names (s.uses_of j)) s c j name mode until
  locks_keep None l unused c name mode until is =
      cond_both (is_full l s unused) _ _ KeepsIn (λ _. keeps_all k s)
      (λ _.
      keeps_both k s (numbered s c unused) _ refl (keeps_numbered s c unused is k)
      (asks_keep (lock_refusal name l.names (s.uses_of unused)) (numbered s c unused) c unused name mode until))

  unlocks_keep : (o : Option NameUse) (c j : ℕ) (name : List ℕ) → KeepsIn (unlocks_use o s c j name)
  unlocks_keep None c j name = keeps_all k s
  unlocks_keep (Some u) c j name = keeps_same k s _ (record { number = λ d. refl; connection = λ i. refl; kept = λ i is. is })

  unlock_keeps : (o : Option ℕ) (c : ℕ) (name : List ℕ) → KeepsIn (unlocks_as o s c name)
  unlock_keeps None c name = keeps_all k s
  unlock_keeps (Some j) c name = unlocks_keep (use_of name (s.uses_of j)) c j name

  pub keeps : (l : Limits) (e : Event) (t : Turn) → Turns l s e t → Keeps k s t.clients
  keeps l (Lock c name mode within) t is =
      subst KeepsIn (sym is.2)
      (cond_both (s.is_closed c) _ _ KeepsIn (λ _. keeps_all k s)
      (λ _. locks_keep (s.number_of c) l is.0 c name mode (until_at s.now within) is.1.unused))
  keeps l (Unlock c name) t is = subst KeepsIn (sym is) (cond_both (s.is_closed c) _ _ KeepsIn (λ _. keeps_all k s) (λ _. unlock_keeps (s.number_of c) c name))
  keeps l (Bad c) t is = subst KeepsIn (sym is) (keeps_same k s _ (record { number = λ d. refl; connection = λ i. refl; kept = λ i is. is }))
  keeps l (Refuse j name why) t is =
      subst KeepsIn (sym is) (cond_both (waits_for name (s.uses_of j)) _ _ KeepsIn (λ _. keeps_same k s _ (record { number = λ d. refl; connection = λ i. refl; kept = λ i is. is })) (λ _. keeps_all k s))
  keeps l (Enter j name seq node) t is =
      subst KeepsIn (sym is) (cond_both (waits_for name (s.uses_of j)) _ _ KeepsIn (λ _. keeps_same k s _ (record { number = λ d. refl; connection = λ i. refl; kept = λ i is. is })) (λ _. keeps_all k s))
  keeps l (Gone c) t is =
      subst KeepsIn (sym is)
      (keeps_both k s (unconnected (s.number_of c) s c) _ (uses_unconnected k (s.number_of c) s c) (keeps_unconnected k (s.number_of c) s c refl)
      (keeps_same k (unconnected (s.number_of c) s c) _ (record { number = λ d. refl; connection = λ i. refl; kept = λ i is. is })))
  keeps l (Time now) t is = subst KeepsIn (sym is) (keeps_same k s _ (record { number = λ d. refl; connection = λ i. refl; kept = λ i is. is }))
  keeps l Release t is =
      subst KeepsIn (sym is) (keeps_same k s _ (record { number = λ d. refl; connection = λ i. refl; kept = λ i is. refl }))
  keeps l (Give_up j name) t is = subst KeepsIn (sym is.1) (keeps_same k s _ (record { number = λ d. refl; connection = λ i. refl; kept = λ i is. is }))
  keeps l (Give_back j name) t is = subst KeepsIn (sym is.1.2) (keeps_same k s _ (record { number = λ d. refl; connection = λ i. refl; kept = λ i is. is }))

pub starts_sound : (s : Clients) → IsUnconnected s → IsSound s
starts_sound s is = record {
  each = λ c k its. absurd (none_some k (sym (is.no_number c) ∙ its));
  not_kept = λ c k its. absurd (none_some c (sym (is.no_connection k) ∙ its));
}

pub sound_after : (l : Limits) (s : Clients) (e : Event) (t : Turn) → Turns l s e t → IsSound s → IsSound t.clients
sound_after l s e t is sound = (keeps 0 s l e t is).sound sound

pub leaving_after : (l : Limits) (s : Clients) (e : Event) (t : Turn) (k : ℕ) → Turns l s e t → IsLeaving s k → s.uses_of k ≢ [] → IsLeaving t.clients k
leaving_after l s e t k is leaving some = (keeps k s l e t is).leaving leaving some

-- ---- A client that is gone

left : (k : ℕ) (o : Option ℕ) (s : Clients) (c : ℕ) → o ≡ Some k → s.is_kept k ≡ false → IsLeaving (unconnected o s c) k
left k None s c its kept = absurd (none_some k its)
left k (Some j) s c its kept = record { no_connection = rw (eq-eqb k j (sym (same_Some j k its))) refl; not_kept = kept }

pub gone_leaves : (l : Limits) (s : Clients) (t : Turn) (c k : ℕ) → Turns l s (Gone c) t → IsSound s → s.number_of c ≡ Some k → IsLeaving t.clients k
gone_leaves l s t c k is sound its =
    let leaving = left k (s.number_of c) s c its (sound.not_kept c k (sound.each c k its)) in
    subst (λ (u : Turn). IsLeaving u.clients k) (sym is) (record { no_connection = leaving.no_connection; not_kept = leaving.not_kept })

pub can_give_back : (l : Limits) (s : Clients) (k : ℕ) (name : List ℕ) (had : NameUse) → IsLeaving s k → use_of name (s.uses_of k) ≡ Some had → CanGiveBack l s k name had
can_give_back l s k name had leaving has = record {
  turn = gives_back s k name had.standing;
  turns = (leaving, (had, has, refl));
  does = refl;
  others = at_same s k k (without name (s.uses_of k)) refl;
}
