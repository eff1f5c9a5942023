-- Which names a client has after its operations.
use Rattle.std.proofs.Common.{◌≡◌, ◌≢◌, ℕ, List, [], ◌∷◌, ◌++◌, length, All, refl, sym, ap, ◌∙◌, subst, arith, inl, inr, append_assoc}
use Rattle.std.specs.Prelude.{◌⊎◌, ◌↔◌}
use Rattle.std.proofs.lemmas.List.{same_from_push, take_at}
use Rattle.std.proofs.lemmas.List.Elements.{All-nil, All-push, All-take, All-same, All-contains, Contains-push}
use Rattle.ra_stamp.specs.declared.mode.Mode.{Mode}
use Rattle.ra_schedule.specs.declared.script.Op.{Op}
use Rattle.ra_schedule.specs.declared.script.Op.TheVariants.{Lock, Unlock}
use Rattle.ra_schedule.specs.Script.{IsHeldAfter}

-- after an operation the client has the name, if `before` says that it had it before
abbrev IsHeldThen : Type 0 → Op → List ℕ → Type 0
IsHeldThen before op name = ((mode : Mode) × (op ≡ Lock name mode)) ⊎ ((op ≢ Unlock name) × before)

-- a list is empty, or it has a last element
pub ends : {X : Type 0} (xs : List X) → (xs ≡ []) ⊎ ((prefix : List X) × (last : X) × (xs ≡ prefix ++ last ∷ []))
ends [] = inl refl
ends (x ∷ xs) =
    elim (ends xs) [
      | inl e ↦ inr ([], x, ap (λ ys. x ∷ ys) e)
      | inr w ↦ inr (x ∷ w.0, w.1, ap (λ ys. x ∷ ys) w.2)
    ]

-- what is before the last element, if a list is split at an earlier one
pub before_last : {X : Type 0} (xs before prefix : List X) (x y last : X) → xs ++ x ∷ [] ≡ before ++ y ∷ (prefix ++ last ∷ []) → (xs ≡ before ++ y ∷ prefix) × (x ≡ last)
before_last xs before prefix x y last e = same_from_push xs (before ++ y ∷ prefix) x last (e ∙ sym (append_assoc before (y ∷ prefix) (last ∷ [])))

-- the operations are split at the lock of the name
held_by_split : (ops before after : List Op) (op : Op) (name : List ℕ) (mode : Mode) → ops ++ op ∷ [] ≡ before ++ Lock name mode ∷ after → All (λ o. o ≢ Unlock name) after → IsHeldThen (IsHeldAfter ops name) op name
held_by_split ops before after op name mode e none =
    elim (ends after) [
      | inl empty ↦ inl (mode, (same_from_push ops before op (Lock name mode) (e ∙ ap (λ xs. before ++ Lock name mode ∷ xs) empty)).1)
      | inr w ↦
          let prefix = w.0 in
          let last = w.1 in
          let P = λ (o : Op). o ≢ Unlock name in
          let is = before_last ops before prefix op (Lock name mode) last (e ∙ ap (λ xs. before ++ Lock name mode ∷ xs) w.2) in
          let all : All P (prefix ++ last ∷ []) = All-same P (prefix ++ last ∷ []) after (sym w.2) none in
          let in-prefix : All P prefix = All-same P prefix _ (sym (take_at prefix (last ∷ []) (length prefix) refl)) (All-take P (length prefix) (prefix ++ last ∷ []) all) in
          let not-last : last ≢ Unlock name = All-contains P (prefix ++ last ∷ []) last all (Contains-push prefix last) in
          inr (λ o. not-last (sym is.1 ∙ o), (before, prefix, mode, is.0, in-prefix))
    ]

-- a client has a name after one more operation exactly if this one locks it, or does not unlock it and it had it before
pub held_pushed : (ops : List Op) (op : Op) (name : List ℕ) → IsHeldAfter (ops ++ op ∷ []) name ↔ IsHeldThen (IsHeldAfter ops name) op name
held_pushed ops op name = (
  λ h. held_by_split ops h.0 h.1 op name h.2 h.3 h.4,
  λ then. elim then [
    | inl w ↦ (ops, [], w.0, ap (λ o. ops ++ o ∷ []) w.1, All-nil (λ o. o ≢ Unlock name))
    | inr w ↦ (
      w.1.0,
      w.1.1 ++ op ∷ [],
      w.1.2,
      ap (λ xs. xs ++ op ∷ []) w.1.3 ∙ append_assoc w.1.0 (Lock name w.1.2 ∷ w.1.1) (op ∷ []),
      All-push (λ o. o ≢ Unlock name) w.1.1 op w.1.4 w.0,
    )
  ],
)

-- if the last operation is not about the name, the name is held exactly if it was before
pub says_nothing : (ops before : List Op) (last : Op) (name : List ℕ) → ops ≡ before ++ last ∷ []
    → ((mode : Mode) → last ≢ Lock name mode) → last ≢ Unlock name → IsHeldAfter ops name ↔ IsHeldAfter before name
says_nothing ops before last name is no-lock no-unlock =
    let pushed = held_pushed before last name in (
      λ h. elim (pushed.0 (subst (λ (xs : List Op). IsHeldAfter xs name) is h)) [
        | inl w ↦ absurd (no-lock w.0 w.1)
        | inr w ↦ w.1
      ],
      λ h. subst (λ (xs : List Op). IsHeldAfter xs name) (sym is) (pushed.1 (inr (no-unlock, h))),
    )

-- if the last operation unlocks the name, it is not held
pub unlocked_last : (ops before : List Op) (name : List ℕ) → ops ≡ before ++ Unlock name ∷ [] → IsHeldAfter ops name → ⊥
unlocked_last ops before name is held =
    elim ((held_pushed before (Unlock name) name).0 (subst (λ (xs : List Op). IsHeldAfter xs name) is held)) [
      | inl w ↦ absurd cc
      | inr w ↦ w.0 refl
    ]

-- a name that the last operation locks is held
pub locked_last : (ops before : List Op) (name : List ℕ) (mode : Mode) → ops ≡ before ++ Lock name mode ∷ [] → IsHeldAfter ops name
locked_last ops before name mode is = (before, [], mode, is, All-nil (λ op. op ≢ Unlock name))

-- nothing is held after no operation
pub none_held : (ops : List Op) (name : List ℕ) → length ops ≡ 0 → IsHeldAfter ops name → ⊥
none_held [] name none ([], after, mode, is, kept) = cc
none_held [] name none (op ∷ before, after, mode, is, kept) = cc
none_held (op ∷ ops) name none held = absurd (omega (arith, none))
