-- A circle stays as long as none of its requests is given back or given up.
use Rattle.std.proofs.Common.{rules, ◌≡◌, ◌⊎◌, ℕ, zero, suc, ◌<◌, ◌≤◌, ◌+◌, ◌-◌, inl, inr, List, [], ◌∷◌, ◌++◌, Bool, true, false, Contains, length, get_or, sym, ◌∙◌, ap, refl, subst, arith}
use Rattle.std.specs.Prelude.{All}
use Rattle.std.proofs.lemmas.Bool.{cases_lt, false≢true}
use Rattle.std.proofs.lemmas.List.Elements.{Contains-append_left, Contains-append_right, Contains-append_cases}
use Rattle.ra_stamp.specs.declared.entry.Entry.{Entry}
use Rattle.ra_stamp.specs.Stamp.{IsEarlier}
use Rattle.ra_stamp.specs.declared.entry.Mark.{Mark}
use Rattle.ra_stamp.specs.declared.entry.Mark.TheVariants.{Requested, Entered, Left, Withdrawn}
use Rattle.ra_table.specs.Table.{LockTable, Excludes, Gains, Loses, MayEnter, TableStep}
use Rattle.ra_deadlock.specs.declared.request.Stage.{Stage}
use Rattle.ra_deadlock.specs.declared.request.Stage.TheVariants.{Waits, Queued, Holds}
use Rattle.ra_deadlock.specs.declared.request.Request.{Request}
use Rattle.ra_deadlock.specs.Deadlock.{EndsAfter, IsCircle, IsInTheWayAt, KeepsOut, is_granted}
use Rattle.ra_deadlock.specs.Lasting.{HasAt, Has, Ends, CirclesLast}

one : (e x : Entry) → Contains (e ∷ []) x → e ≡ x
one e x (zero, lt, is) = is
one e x (suc k, lt, is) = absurd (omega (arith, lt))

gained : (old new : List Entry) (e x : Entry) → Gains old e new → Contains old x → Contains new x
gained old new e x (prefix, rest, was, is) has =
    subst (λ (entries : List Entry). Contains entries x) (sym is)
    (elim (Contains-append_cases prefix rest x (subst (λ (entries : List Entry). Contains entries x) was has)) [
      | inl before ↦ Contains-append_left prefix (e ∷ rest) x before
      | inr after ↦ Contains-append_right prefix (e ∷ rest) x (Contains-append_right (e ∷ []) rest x after)
    ])

kept : (old new : List Entry) (e x : Entry) → Loses old e new → (e ≡ x → ⊥) → Contains old x → Contains new x
kept old new e x (prefix, rest, is, was) other has =
    subst (λ (entries : List Entry). Contains entries x) (sym is)
    (elim (Contains-append_cases prefix (e ∷ rest) x (subst (λ (entries : List Entry). Contains entries x) was has)) [
      | inl before ↦ Contains-append_left prefix rest x before
      | inr after ↦ elim (Contains-append_cases (e ∷ []) rest x after) [
        | inl this ↦ absurd (other (one e x this))
        | inr later ↦ Contains-append_right prefix rest x later
      ]
    ])

-- each of a circle ends only after some other one of it
after : (requests circle : List Request) → IsCircle requests circle → (k : ℕ) (d : Request) → k < length circle
    → (j : ℕ) × (j < length circle) × EndsAfter (get_or circle k d) (get_or circle j d)
after requests circle is k d lt =
    elim (cases_lt (k + 1) (length circle)) [
      | inl less ↦ (k + 1, less, is.each k d less)
      | inr end ↦
          let last : length circle - 1 ≡ k = omega (arith, end, lt) in
          (0, is.some, subst (λ (m : ℕ). EndsAfter (get_or circle m d) (get_or circle 0 d)) last (is.last d))
    ]

-- an entry that is kept out by one of the table may not enter
may_not_enter : (table : LockTable) (stage : Stage) (ahead e : Entry) → HasAt table stage ahead → KeepsOut stage ahead e → MayEnter table e → ⊥
may_not_enter table Waits ahead e (k, lt, is) keeps may =
    let at = may.no_earlier k ahead lt in
    let way = subst (λ (x : Entry). Excludes x e → IsEarlier x.stamp e.stamp → ⊥) is at in
    way keeps.0 keeps.1
may_not_enter table Queued ahead e has keeps may = has
may_not_enter table Holds ahead e (k, lt, is) keeps may =
    let at = may.not_held k ahead lt in
    let way = subst (λ (x : Entry). Excludes x e → ⊥) is at in
    way keeps

-- one that waits in a circle may not enter
waits_on : (requests circle : List Request) (table : LockTable) → IsCircle requests circle → All (Has table) circle → (k : ℕ) (d : Request) → k < length circle
    → (get_or circle k d).stage ≡ Waits → MayEnter table (get_or circle k d).entry → ⊥
waits_on requests circle table is has k d lt stage may =
    let (j, j_lt, ends) = after requests circle is k d lt in
    let next = get_or circle j d in
    elim ends [
      | inl way ↦ may_not_enter table next.stage next.entry (get_or circle k d).entry (has j d j_lt)
          (subst (λ (s : Stage). IsInTheWayAt s next (get_or circle k d).entry) stage way) may
      | inr held ↦ absurd (false≢true (subst (λ (s : Stage). is_granted s ≡ true) stage held.0))
    ]

one_lasts : (table next : LockTable) (mark : Mark) (stage : Stage) (entry : Entry) → TableStep table mark next → (Ends mark entry → ⊥) → (stage ≡ Waits → MayEnter table entry → ⊥)
    → HasAt table stage entry → HasAt next stage entry
one_lasts table next mark Queued entry step stays kept_out has = has
one_lasts table next (Requested e) Waits entry step stays kept_out has = gained _ _ e entry step.1 has
one_lasts table next (Requested e) Holds entry step stays kept_out has = subst (λ (entries : List Entry). Contains entries entry) (sym step.2) has
one_lasts table next (Entered e) Waits entry step stays kept_out has =
    kept _ _ e entry step.1 (λ is. kept_out refl (subst (λ (x : Entry). MayEnter table x) is step.0)) has
one_lasts table next (Entered e) Holds entry step stays kept_out has = gained _ _ e entry step.2 has
one_lasts table next (Left e) Waits entry step stays kept_out has = subst (λ (entries : List Entry). Contains entries entry) (sym step.1) has
one_lasts table next (Left e) Holds entry step stays kept_out has = kept _ _ e entry step.2 stays has
one_lasts table next (Withdrawn e) Waits entry step stays kept_out has = kept _ _ e entry step.1 stays has
one_lasts table next (Withdrawn e) Holds entry step stays kept_out has = subst (λ (entries : List Entry). Contains entries entry) (sym step.2) has

pub circles_last : CirclesLast
circles_last requests circle table next mark is has stays step k d lt =
    one_lasts table next mark (get_or circle k d).stage (get_or circle k d).entry step (stays k d lt) (waits_on requests circle table is has k d lt) (has k d lt)
