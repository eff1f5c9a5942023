-- Which names a client has after its operations.
use Rattle.std.proofs.Common.{◌≡◌, ◌≢◌, ◌⊎◌, ℕ, Bool, true, false, if◌then◌else◌, List, [], ◌∷◌, ◌++◌, length, All, refl, sym, ap, ◌∙◌, inl, inr, arith, length-append}
use Rattle.std.proofs.lemmas.Bool.{cases_Bool, false≢true}
use Rattle.std.proofs.lemmas.List.Elements.{All-nil, All-cons, All-head, All-tail, All-same}
use Rattle.std.specs.Str.{bytes_eq}
use Rattle.std.specs.Cmp.Lexicographic.{bytes_decides}
use Rattle.ra_stamp.specs.declared.mode.Mode.{Mode}
use Rattle.ra_schedule.specs.declared.script.Op.{Op}
use Rattle.ra_schedule.specs.declared.script.Op.TheVariants.{Lock, Unlock}
use Rattle.ra_schedule.specs.Script.{IsHeldAfter}
use Rattle.ra_script.specs.ScriptText.{is_held_from, is_held_after}

-- the client locked the name and has not unlocked it since, or it had the name before and did not unlock it
abbrev pub IsHeldFrom : Bool → List Op → List ℕ → Type 0
IsHeldFrom held ops name = IsHeldAfter ops name ⊎ ((held ≡ true) × All (λ op. op ≢ Unlock name) ops)

-- ---- What a test of a name decides

at_then : (ops : List Op) (name : List ℕ) (b x y : Bool) → b ≡ true → is_held_from (if b then x else y) ops name ≡ true → is_held_from x ops name ≡ true
at_then ops name true x y is h = h
at_then ops name false x y is h = absurd (false≢true is)

at_else : (ops : List Op) (name : List ℕ) (b x y : Bool) → b ≡ false → is_held_from (if b then x else y) ops name ≡ true → is_held_from y ops name ≡ true
at_else ops name true x y is h = absurd (false≢true (sym is))
at_else ops name false x y is h = h

by_then : (ops : List Op) (name : List ℕ) (b x y : Bool) → b ≡ true → is_held_from x ops name ≡ true → is_held_from (if b then x else y) ops name ≡ true
by_then ops name true x y is h = h
by_then ops name false x y is h = absurd (false≢true is)

by_else : (ops : List Op) (name : List ℕ) (b x y : Bool) → b ≡ false → is_held_from y ops name ≡ true → is_held_from (if b then x else y) ops name ≡ true
by_else ops name true x y is h = absurd (false≢true (sym is))
by_else ops name false x y is h = h

-- ---- The test and what it says

-- another operation in front
later : (op : Op) (ops : List Op) (name : List ℕ) → IsHeldAfter ops name → IsHeldAfter (op ∷ ops) name
later op ops name h = (op ∷ h.0, h.1, h.2, ap (λ (xs : List Op). op ∷ xs) h.3, h.4)

pub held_from : (held : Bool) (ops : List Op) (name : List ℕ) → is_held_from held ops name ≡ true → IsHeldFrom held ops name
held_from held [] name h = inr (h, All-nil (λ op. op ≢ Unlock name))
held_from held (Lock locked mode ∷ ops) name h =
    elim (cases_Bool (bytes_eq locked name)) [
      | inl same ↦
          elim (held_from true ops name (at_then ops name (bytes_eq locked name) true held same h)) [
            | inl w ↦ inl (later (Lock locked mode) ops name w)
            | inr w ↦ inl ([], ops, mode, ap (λ (n : List ℕ). Lock n mode ∷ ops) ((bytes_decides locked name).0 same), w.1)
          ]
      | inr other ↦
          elim (held_from held ops name (at_else ops name (bytes_eq locked name) true held other h)) [
            | inl w ↦ inl (later (Lock locked mode) ops name w)
            | inr w ↦ inr (w.0, All-cons (λ op. op ≢ Unlock name) (Lock locked mode) ops (λ e. cc) w.1)
          ]
    ]
held_from held (Unlock unlocked ∷ ops) name h =
    elim (cases_Bool (bytes_eq unlocked name)) [
      | inl same ↦
          elim (held_from false ops name (at_then ops name (bytes_eq unlocked name) false held same h)) [
            | inl w ↦ inl (later (Unlock unlocked) ops name w)
            | inr w ↦ absurd (false≢true w.0)
          ]
      | inr other ↦
          elim (held_from held ops name (at_else ops name (bytes_eq unlocked name) false held other h)) [
            | inl w ↦ inl (later (Unlock unlocked) ops name w)
            | inr w ↦ inr (w.0, All-cons (λ op. op ≢ Unlock name) (Unlock unlocked) ops (λ e. different unlocked name other e) w.1)
          ]
    ]
  where
    different : (a b : List ℕ) → bytes_eq a b ≡ false → Unlock a ≡ Unlock b → ⊥
    different a b other e = let same : a ≡ b = cc in false≢true (sym other ∙ (bytes_decides a b).1 same)

earlier_by : (op : Op) (ops : List Op) (name : List ℕ) (before after : List Op) (mode : Mode) → op ∷ ops ≡ before ++ Lock name mode ∷ after → All (λ o. o ≢ Unlock name) after
    → IsHeldAfter ops name ⊎ ((m : Mode) × (op ≡ Lock name m) × All (λ o. o ≢ Unlock name) ops)
earlier_by op ops name [] after mode e none =
    let first : op ≡ Lock name mode = cc in
    let rest : ops ≡ after = cc in
    inr (mode, first, All-same (λ o. o ≢ Unlock name) ops after rest none)
earlier_by op ops name (x ∷ before) after mode e none =
    let rest : ops ≡ before ++ Lock name mode ∷ after = cc in inl (before, after, mode, rest, none)

-- one operation less in front
earlier : (op : Op) (ops : List Op) (name : List ℕ) → IsHeldAfter (op ∷ ops) name → IsHeldAfter ops name ⊎ ((m : Mode) × (op ≡ Lock name m) × All (λ o. o ≢ Unlock name) ops)
earlier op ops name h = earlier_by op ops name h.0 h.1 h.2 h.3 h.4

pub is_held_from-true : (held : Bool) (ops : List Op) (name : List ℕ) → IsHeldFrom held ops name → is_held_from held ops name ≡ true
is_held_from-true held [] name h =
    elim h [
      | inl w ↦ absurd (omega (arith, ap length w.3, length-append w.0 (Lock name w.2 ∷ w.1)))
      | inr w ↦ w.0
    ]
is_held_from-true held (Lock locked mode ∷ ops) name h =
    elim (cases_Bool (bytes_eq locked name)) [
      | inl same ↦ by_then ops name (bytes_eq locked name) true held same (is_held_from-true true ops name (elim h [
        | inl w ↦ elim (earlier (Lock locked mode) ops name w) [ inl v ↦ inl v | inr v ↦ inr (refl, v.2) ]
        | inr w ↦ inr (refl, All-tail (λ o. o ≢ Unlock name) (Lock locked mode) ops w.1)
      ]))
      | inr other ↦ by_else ops name (bytes_eq locked name) true held other (is_held_from-true held ops name (elim h [
        | inl w ↦
            elim (earlier (Lock locked mode) ops name w) [
              | inl v ↦ inl v
              | inr v ↦ absurd (let locks : Lock locked mode ≡ Lock name v.0 = v.1 in let same : locked ≡ name = cc in false≢true (sym other ∙ (bytes_decides locked name).1 same))
            ]
        | inr w ↦ inr (w.0, All-tail (λ o. o ≢ Unlock name) (Lock locked mode) ops w.1)
      ]))
    ]
is_held_from-true held (Unlock unlocked ∷ ops) name h =
    elim (cases_Bool (bytes_eq unlocked name)) [
      | inl same ↦ by_then ops name (bytes_eq unlocked name) false held same (is_held_from-true false ops name (elim h [
        | inl w ↦
            elim (earlier (Unlock unlocked) ops name w) [
              | inl v ↦ inl v
              | inr v ↦ absurd (let locks : Unlock unlocked ≡ Lock name v.0 = v.1 in cc)
            ]
        | inr w ↦ absurd (All-head (λ o. o ≢ Unlock name) (Unlock unlocked) ops w.1 (ap Unlock ((bytes_decides unlocked name).0 same)))
      ]))
      | inr other ↦ by_else ops name (bytes_eq unlocked name) false held other (is_held_from-true held ops name (elim h [
        | inl w ↦
            elim (earlier (Unlock unlocked) ops name w) [
              | inl v ↦ inl v
              | inr v ↦ absurd (let locks : Unlock unlocked ≡ Lock name v.0 = v.1 in cc)
            ]
        | inr w ↦ inr (w.0, All-tail (λ o. o ≢ Unlock name) (Unlock unlocked) ops w.1)
      ]))
    ]

-- the test says whether the client has the name
pub held_after : (ops : List Op) (name : List ℕ) → is_held_after ops name ≡ true → IsHeldAfter ops name
held_after ops name h = elim (held_from false ops name h) [ inl w ↦ w | inr w ↦ absurd (false≢true w.0) ]

pub is_held_after-false : (ops : List Op) (name : List ℕ) → is_held_after ops name ≡ false → IsHeldAfter ops name → ⊥
is_held_after-false ops name h w = false≢true (sym h ∙ is_held_from-true false ops name (inl w))
