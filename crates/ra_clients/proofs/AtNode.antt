-- Whoever holds a name holds it by the node.
use Rattle.std.proofs.Common.{◌≡◌, ◌≢◌, ◌⊎◌, ℕ, List, [], ◌∷◌, ◌++◌, Option, Some, None, refl, sym, ap, subst, ◌∙◌, inl, inr}
use Rattle.std.specs.Str.{bytes_eq}
use Rattle.std.proofs.lemmas.Bool.{cases_Bool, cases_eq, cond_both}
use Rattle.std.proofs.lemmas.Option.{same_Some}
use Rattle.ra_stamp.specs.declared.mode.Mode.{Mode}
use Rattle.ra_book.specs.declared.book.event.BookKind.TheVariants.{Leave}
use Rattle.ra_host_text.specs.declared.answer.Answer.{Answer}
use Rattle.ra_host_text.specs.declared.answer.Answer.TheVariants.{Timeout, Unlocked, Refused}
use Rattle.ra_host_text.specs.declared.answer.Refusal.{Refusal}
use Rattle.ra_host_text.specs.declared.answer.Refusal.TheVariants.{Limit, NotHeld}
use Rattle.ra_clients.specs.declared.uses.NameUse.{NameUse}
use Rattle.ra_clients.specs.declared.uses.Standing.{Standing}
use Rattle.ra_clients.specs.declared.uses.Standing.TheVariants.{Waits, Holds}
use Rattle.ra_clients.specs.Uses.{use_of, waits_for, new_use, let_in, without, lock_refusal}
use Rattle.ra_clients.specs.Clients.{Limits, Clients, Turn, Event, Turns, silent, tells, told, closes, passes_time, releases, with_uses, is_full, numbered, asks_unless, locks_as, until_at, ends, unlocks_use, unlocks_as, unconnected, goes}
use Rattle.ra_clients.specs.Clients.Event.{Lock, Unlock, Bad, Refuse, Enter, Gone, Time, Release, Give_up, Give_back}
use Rattle.ra_clients.specs.Laws.{IsHolder}
use Rattle.ra_clients.specs.AtNode.{Holding, AreGranted, IsEntry, TurnsIfAny, LetsIn, Step, AreHeld, AreDistinct}
use Rattle.ra_clients.proofs.Ending.{given_is, nothing}
use Rattle.ra_clients.proofs.Holding.{at_other, at_same, not_it}
use Rattle.ra_clients.proofs.NamedUses.{none_some, same_name, after_push, after_end, after_other_entry}
use Rattle.ra_clients.proofs.Once.{past, distinct_after}

module _ (k : ℕ) (name : List ℕ) where
  -- who holds after the turn held before it, and the node is not to give the name back
  abbrev Held : Clients → Turn → Type 0
  Held s t = IsHolder t.clients k name → IsHolder s k name × (t.does ≢ Some (Leave k name))

  as_before : (s t : Clients) → t.uses_of k ≡ s.uses_of k → IsHolder t k name → IsHolder s k name
  as_before s t same h = record { use_now = h.use_now; is = ap (use_of name) (sym same) ∙ h.is; holds = h.holds }

  stays : (s : Clients) (t : Turn) → t.clients.uses_of k ≡ s.uses_of k → t.does ≡ None → Held s t
  stays s t same none h = (as_before s t.clients same h, λ is. nothing (Leave k name) (sym none ∙ is))

  -- the use of client j, by which it holds
  has_now : (s : Clients) (j : ℕ) (us : List NameUse) → (same : k ≡ j) → (h : IsHolder (with_uses s j us) k name) → use_of name us ≡ Some h.use_now
  has_now s j us same h = ap (use_of name) (sym (at_same s j k us same)) ∙ h.is

  -- a client that begins to wait does not hold
  holds_not : (v u : NameUse) (until : Option ℕ) → v.standing ≡ Waits until → use_of name (v ∷ []) ≡ Some u → u.standing ≡ Holds → ⊥
  holds_not v u until waits is holds =
      elim (cases_Bool (bytes_eq v.name name)) [
        | inl equal ↦
            let same : v ≡ u = same_Some v u (rw equal at is) in
            let never : Waits until ≡ Holds = sym waits ∙ (ap (λ (x : NameUse). x.standing) same ∙ holds) in
            absurd (cc)
        | inr unequal ↦ absurd (none_some u (rw unequal at is))
      ]

  pushed : (s : Clients) (j : ℕ) (v : NameUse) (until : Option ℕ) → v.standing ≡ Waits until → IsHolder (with_uses s j (s.uses_of j ++ v ∷ [])) k name → IsHolder s k name
  pushed s j v until waits h =
      elim (cases_eq k j) [
        | inl same ↦ by (use_of name (s.uses_of j)) refl same
        | inr apart ↦ as_before s (with_uses s j (s.uses_of j ++ v ∷ [])) (at_other s j k (s.uses_of j ++ v ∷ []) apart) h
      ]
    where
      by : (o : Option NameUse) → use_of name (s.uses_of j) ≡ o → k ≡ j → IsHolder s k name
      by None is same =
          absurd (holds_not v h.use_now until waits (sym (past name (s.uses_of j) (v ∷ []) is) ∙ has_now s j (s.uses_of j ++ v ∷ []) same h) h.holds)
      by (Some x) is same =
          let it : Some x ≡ Some h.use_now = sym (after_push name (s.uses_of j) (v ∷ []) x is) ∙ has_now s j (s.uses_of j ++ v ∷ []) same h in
          record {
            use_now = x;
            is = ap (λ (i : ℕ). use_of name (s.uses_of i)) same ∙ is;
            holds = ap (λ (y : NameUse). y.standing) (same_Some x h.use_now it) ∙ h.holds;
          }

  asks_held : (s r : Clients) (o : Option Refusal) (c j : ℕ) (other : List ℕ) (mode : Mode) (until : Option ℕ) → r.uses_of k ≡ s.uses_of k → Held s (asks_unless o r c j other mode until)
  asks_held s r (Some why) c j other mode until same = stays s (tells r c (Refused other why)) same refl
  asks_held s r None c j other mode until same =
      λ h. (
        as_before s r same (pushed r j (new_use other r.now until) until refl h),
        λ is. absurd (cc),
      )

  locks_held : (o : Option ℕ) (l : Limits) (unused : ℕ) (s : Clients) (c : ℕ) (other : List ℕ) (mode : Mode) (until : Option ℕ) → Held s (locks_as o l unused s c other mode until)
  locks_held (Some j) l unused s c other mode until = asks_held s s (lock_refusal other l.names (s.uses_of j)) c j other mode until refl
  locks_held None l unused s c other mode until =
      cond_both (is_full l s unused) _ _ (Held s) (λ _. stays s (tells s c (Refused other Limit)) refl refl)
      (λ _. asks_held s (numbered s c unused) (lock_refusal other l.names (s.uses_of unused)) c unused other mode until refl)

  -- whoever holds after a use ended has not ended it
  ended_other : (s : Clients) (j : ℕ) (other : List ℕ) → AreDistinct s → IsHolder (with_uses s j (without other (s.uses_of j))) k name
      → IsHolder s k name × (j ≡ k → other ≡ name → ⊥)
  ended_other s j other distinct h =
      elim (cases_eq k j) [
        | inl same ↦
            let now = has_now s j (without other (s.uses_of j)) same h in
            elim (cases_Bool (bytes_eq name other)) [
              | inl equal ↦
                  let its_name = same_name name other equal in
                  let gone : use_of name (without other (s.uses_of j)) ≡ None = (λ i. use_of name (without (sym its_name i) (s.uses_of j))) ∙ (distinct.each j) name in
                  absurd (none_some h.use_now (sym gone ∙ now))
              | inr unequal ↦
                  let apart = not_it name other unequal in (
                    record {
                      use_now = h.use_now;
                      is = ap (λ (i : ℕ). use_of name (s.uses_of i)) same ∙ (sym (after_end name other (s.uses_of j) apart) ∙ now);
                      holds = h.holds;
                    },
                    λ _ eq. apart (sym eq),
                  )
            ]
        | inr apart ↦ (as_before s _ (at_other s j k (without other (s.uses_of j)) apart) h, λ eq _. apart (sym eq))
      ]

  ends_held : (s : Clients) (j : ℕ) (other : List ℕ) (standing : Standing) (told : List (ℕ × Answer)) → AreDistinct s → Held s (ends s j other standing told)
  ends_held s j other standing told distinct h =
      let before = ended_other s j other distinct h in
      (before.0, λ is. let same = given_is j k other name standing is in before.1 same.0 same.1)

  unlocks_held : (o : Option NameUse) (s : Clients) (c j : ℕ) (other : List ℕ) → AreDistinct s → Held s (unlocks_use o s c j other)
  unlocks_held None s c j other distinct = stays s (tells s c (Refused other NotHeld)) refl refl
  unlocks_held (Some u) s c j other distinct = ends_held s j other u.standing ((c, Unlocked other) ∷ []) distinct

  unlock_held : (o : Option ℕ) (s : Clients) (c : ℕ) (other : List ℕ) → AreDistinct s → Held s (unlocks_as o s c other)
  unlock_held None s c other distinct = stays s (tells s c (Refused other NotHeld)) refl refl
  unlock_held (Some j) s c other distinct = unlocks_held (use_of other (s.uses_of j)) s c j other distinct

  gone_same : (o : Option ℕ) (s : Clients) (c : ℕ) → (unconnected o s c).uses_of k ≡ s.uses_of k
  gone_same None s c = refl
  gone_same (Some j) s c = refl

  held_before : (l : Limits) (s : Clients) (e : Event) (t : Turn) → (IsEntry e → ⊥) → AreDistinct s → Turns l s e t → Held s t
  held_before l s (Lock c other mode within) t own distinct is =
      subst (Held s) (sym is.2)
      (cond_both (s.is_closed c) _ _ (Held s) (λ _. stays s (silent s) refl refl) (λ _. locks_held (s.number_of c) l is.0 s c other mode (until_at s.now within)))
  held_before l s (Unlock c other) t own distinct is =
      subst (Held s) (sym is) (cond_both (s.is_closed c) _ _ (Held s) (λ _. stays s (silent s) refl refl) (λ _. unlock_held (s.number_of c) s c other distinct))
  held_before l s (Bad c) t own distinct is = subst (Held s) (sym is) (stays s (closes s c) refl refl)
  held_before l s (Refuse j other why) t own distinct is =
      subst (Held s) (sym is)
      (cond_both (waits_for other (s.uses_of j)) _ _ (Held s)
      (λ _ h. ((ended_other s j other distinct h).0, λ none. nothing (Leave k name) none)) (λ _. stays s (silent s) refl refl))
  held_before l s (Enter j other seq node) t own distinct is = absurd (own (j, other, seq, node, refl))
  held_before l s (Gone c) t own distinct is = subst (Held s) (sym is) (stays s (goes s c) (gone_same (s.number_of c) s c) refl)
  held_before l s (Time now) t own distinct is = subst (Held s) (sym is) (stays s (passes_time s now) refl refl)
  held_before l s Release t own distinct is = subst (Held s) (sym is) (stays s (releases s) refl refl)
  held_before l s (Give_up j other) t own distinct is = subst (Held s) (sym is.1) (ends_held s j other is.0.waiting.standing (told (s.connection_of j) (Timeout other)) distinct)
  held_before l s (Give_back j other) t own distinct is = subst (Held s) (sym is.1.2) (ends_held s j other is.1.0.standing [] distinct)

  -- whoever holds after a client was let in held before, or is that client
  let_in_held : (l : Limits) (s : Clients) (j : ℕ) (other : List ℕ) (seq node : ℕ) (t : Turn) → Turns l s (Enter j other seq node) t → IsHolder t.clients k name
      → IsHolder s k name ⊎ ((j ≡ k) × (other ≡ name))
  let_in_held l s j other seq node t is =
      subst (λ (x : Turn). IsHolder x.clients k name → IsHolder s k name ⊎ ((j ≡ k) × (other ≡ name))) (sym is)
      (cond_both (waits_for other (s.uses_of j)) _ _ (λ (x : Turn). IsHolder x.clients k name → IsHolder s k name ⊎ ((j ≡ k) × (other ≡ name)))
      (λ _ h.
      elim (cases_eq k j) [
        | inl same ↦
            elim (cases_Bool (bytes_eq name other)) [
              | inl equal ↦ inr (sym same, sym (same_name name other equal))
              | inr unequal ↦
                  inl
                  (record {
                    use_now = h.use_now;
                    is = ap (λ (i : ℕ). use_of name (s.uses_of i)) same
                        ∙ (sym (after_other_entry name other s.now (s.uses_of j) (not_it name other unequal)) ∙ has_now s j (let_in other s.now (s.uses_of j)) same h);
                    holds = h.holds;
                  })
            ]
        | inr apart ↦ inl (as_before s _ (at_other s j k (let_in other s.now (s.uses_of j)) apart) h)
      ])
      (λ _ h. inl h))

-- ---- Steps

let_in_all : (l : Limits) (held : Holding) (s new : Clients) (entered : List (ℕ × List ℕ)) → LetsIn l s entered new → AreGranted entered held → AreDistinct s → AreHeld s held
    → AreDistinct new × AreHeld new held
let_in_all l held s new [] is granted distinct all = (subst (λ (x : Clients). AreDistinct x) (sym is) distinct, subst (λ (x : Clients). AreHeld x held) (sym is) all)
let_in_all l held s new (x ∷ xs) (seq, node, t, is, rest) granted distinct all =
    let after : AreHeld t.clients held =
    λ k name h.
    elim (let_in_held k name l s x.0 x.1 seq node t is h) [
      | inl before ↦ all k name before
      | inr it ↦ ap held (sym it.1) ∙ (granted.0 ∙ ap (λ (n : ℕ). Some n) it.0)
    ]
    in
    let_in_all l held t.clients new xs rest granted.1 (distinct_after l s (Enter x.0 x.1 seq node) t is distinct) after

distinct_if_any : (l : Limits) (s : Clients) (e : Option Event) (t : Turn) → TurnsIfAny l s e t → AreDistinct s → AreDistinct t.clients
distinct_if_any l s None t is distinct = subst (λ (x : Turn). AreDistinct x.clients) (sym is) distinct
distinct_if_any l s (Some e) t is distinct = distinct_after l s e t is.1 distinct

held_if_any : (k : ℕ) (name : List ℕ) (l : Limits) (s : Clients) (e : Option Event) (t : Turn) → TurnsIfAny l s e t → AreDistinct s → IsHolder t.clients k name
    → IsHolder s k name × (t.does ≢ Some (Leave k name))
held_if_any k name l s None t is distinct h = (as_before k name s t.clients (ap (λ (x : Turn). x.clients.uses_of k) is) h, λ leaves. nothing (Leave k name) (sym (ap (λ (x : Turn). x.does) is) ∙ leaves))
held_if_any k name l s (Some e) t is distinct h = held_before k name l s e t is.0 distinct is.1 h

pub step_holds : (l : Limits) (s new : Clients) (before after : Holding) (e : Option Event) → Step l s before e new after → AreDistinct s → AreHeld s before → AreDistinct new × AreHeld new after
step_holds l s new before after e step distinct all =
    let now : AreHeld step.turn.clients after =
    λ k name h.
    let was = held_if_any k name l s e step.turn step.turns distinct h in
    step.node.lasts k name (all k name was.0) was.1
    in
    let_in_all l after step.turn.clients new step.entered step.lets_in step.node.granted (distinct_if_any l s e step.turn step.turns distinct) now
