-- A client that moves on by one operation.
use Rattle.std.proofs.Common.{◌≡◌, ◌≢◌, ◌<◌, ◌≤◌, ◌+◌, ◌-◌, ◌||◌, ℕ, Bool, true, false, List, length, get_or, set, refl, sym, ap, subst, ◌∙◌, arith, inl, inr}
use Rattle.std.proofs.lemmas.Bool.{cases_eq, eq-eqb, ne_eqb}
use Rattle.std.proofs.lemmas.List.{get_or-set_other, get_or_default}
use Rattle.std.proofs.lemmas.Grind.{get_or-set_at}
use Rattle.ra_stamp.specs.declared.mode.Mode.{Mode}
use Rattle.ra_world.specs.declared.step.Step.{Step}
use Rattle.ra_world.specs.declared.step.Step.TheVariants.{Ask, Leave, Cancel, Deliver, Lose, Repeat, Forget}
use Rattle.ra_schedule.specs.declared.driver.client_progress.Progress.{Progress}
use Rattle.ra_schedule.specs.Progress.{IsAfterStep}
use Rattle.ra_schedule.specs.Schedule.{steps_in, Asks}

pub others_kept : (list : List Progress) (client k : ℕ) (d new : Progress) → 1 ≤ client → k + 1 ≢ client → get_or (set list (client - 1) new) k d ≡ get_or list k d
others_kept list client k d new first other = get_or-set_other list (client - 1) k new d (λ e. other (omega (arith, first, e)))

-- it waits from then on if it asks, and otherwise as it did
pub moved_on : (list : List Progress) (client k : ℕ) (d idle : Progress) (asks on : Bool) → on ≡ (asks || (get_or list (client - 1) idle).waiting) → 1 ≤ client
    → k < length list → k + 1 ≡ client
    → ◌≡◌ {A = Progress} (get_or (set list (client - 1) (record { done = (get_or list (client - 1) idle).done + 1; waiting = on })) k d)
    (record { done = (get_or list k d).done + 1; waiting = asks || (get_or list k d).waiting })
moved_on list client k d idle asks on is first within at =
    let place : client - 1 ≡ k = omega (arith, at) in
    let here : get_or list (client - 1) idle ≡ get_or list k d = ap (λ (i : ℕ). get_or list i idle) place ∙ get_or_default list k idle d within in
    let waits : on ≡ (asks || (get_or list k d).waiting) = is ∙ ap (λ (p : Progress). asks || p.waiting) here in
    get_or-set_at list (client - 1) k (record { done = (get_or list (client - 1) idle).done + 1; waiting = on }) d (sym place) (omega (arith, place, within))
    ∙ (λ i. record { done = (here i).done + 1; waiting = waits i })

pub nobody_there : (list : List Progress) (client k : ℕ) → k < length list → k + 1 ≡ client → length list < client → ⊥
nobody_there list client k within at above = omega (arith, within, at, above)

pub no_number : (client k : ℕ) → k + 1 ≡ client → client < 1 → ⊥
no_number client k at below = omega (arith, at, below)

-- it waits no longer
pub stopped : (list : List Progress) (client k : ℕ) (d idle : Progress) → 1 ≤ client → k < length list → k + 1 ≡ client
    → ◌≡◌ {A = Progress} (get_or (set list (client - 1) (record { done = (get_or list (client - 1) idle).done; waiting = false })) k d)
    (record { done = (get_or list k d).done; waiting = false })
stopped list client k d idle first within at =
    let place : client - 1 ≡ k = omega (arith, at) in
    let here : get_or list (client - 1) idle ≡ get_or list k d = ap (λ (i : ℕ). get_or list i idle) place ∙ get_or_default list k idle d within in
    get_or-set_at list (client - 1) k (record { done = (get_or list (client - 1) idle).done; waiting = false }) d (sym place) (omega (arith, place, within))
    ∙ (λ i. record { done = (here i).done; waiting = false })

-- ---- Steps

-- a client after an ask
pub after_ask : (step : Step) (node asker : ℕ) (name : List ℕ) (mode : Mode) (client : ℕ) (old new : Progress) → step ≡ Ask node asker name mode
    → (client ≢ asker → new ≡ old) → (client ≡ asker → new ≡ record { done = old.done + 1; waiting = true || old.waiting })
    → IsAfterStep client step old new
after_ask step node asker name mode client old new is others this =
    subst (λ (s : Step). IsAfterStep client s old new) (sym is)
    (elim (cases_eq client asker) [
      | inl same ↦
          subst (IsAfterStep client (Ask node asker name mode) old) (sym (this same))
          (record { done = rw (eq-eqb asker client (sym same)); waiting = (λ _. inl (sym same), λ _. refl) })
      | inr apart ↦
          subst (IsAfterStep client (Ask node asker name mode) old) (sym (others apart))
          (record {
            done = rw (ne_eqb asker client (λ same. apart (sym same))) (omega arith);
            waiting = (λ waits. inr waits, λ either. elim either [ inl asks ↦ absurd (apart (sym asks)) | inr waits ↦ waits ]);
          })
    ])

-- after a leave
pub after_leave : (step : Step) (node leaver : ℕ) (name : List ℕ) (client : ℕ) (old new : Progress) → step ≡ Leave node leaver name
    → (client ≢ leaver → new ≡ old) → (client ≡ leaver → new ≡ record { done = old.done + 1; waiting = false || old.waiting })
    → IsAfterStep client step old new
after_leave step node leaver name client old new is others this =
    subst (λ (s : Step). IsAfterStep client s old new) (sym is)
    (elim (cases_eq client leaver) [
      | inl same ↦
          subst (IsAfterStep client (Leave node leaver name) old) (sym (this same))
          (record {
            done = rw (eq-eqb leaver client (sym same));
            waiting = (λ waits. inr waits, λ either. elim either [ inl asks ↦ absurd asks | inr waits ↦ waits ]);
          })
      | inr apart ↦
          subst (IsAfterStep client (Leave node leaver name) old) (sym (others apart))
          (record {
            done = rw (ne_eqb leaver client (λ same. apart (sym same))) (omega arith);
            waiting = (λ waits. inr waits, λ either. elim either [ inl asks ↦ absurd asks | inr waits ↦ waits ]);
          })
    ])

-- after a step that does no operation of a client
pub after_another : (step : Step) (client : ℕ) (old new : Progress) → steps_in client step ≡ 0 → (Asks client step → ⊥) → new ≡ old → IsAfterStep client step old new
after_another step client old new none not_asks same =
    subst (IsAfterStep client step old) (sym same)
    (record { done = omega (arith, none); waiting = (λ waits. inr waits, λ either. elim either [ inl asks ↦ absurd (not_asks asks) | inr waits ↦ waits ]) })

-- the step is not one in which a client asks or leaves
abbrev pub IsOfNobody : Step → Type 0
IsOfNobody (Ask node client name mode) = ⊥
IsOfNobody (Leave node client name) = ⊥
IsOfNobody (Cancel node client name) = Unit {0}
IsOfNobody (Deliver message) = Unit {0}
IsOfNobody (Lose message) = Unit {0}
IsOfNobody (Repeat message) = Unit {0}
IsOfNobody (Forget node) = Unit {0}

pub after_nobody : (step : Step) (client : ℕ) (old new : Progress) → IsOfNobody step → new ≡ old → IsAfterStep client step old new
after_nobody (Ask node asker name mode) client old new nobody same = absurd nobody
after_nobody (Leave node leaver name) client old new nobody same = absurd nobody
after_nobody (Cancel node waiter name) client old new nobody same = after_another (Cancel node waiter name) client old new refl (λ asks. asks) same
after_nobody (Deliver message) client old new nobody same = after_another (Deliver message) client old new refl (λ asks. asks) same
after_nobody (Lose message) client old new nobody same = after_another (Lose message) client old new refl (λ asks. asks) same
after_nobody (Repeat message) client old new nobody same = after_another (Repeat message) client old new refl (λ asks. asks) same
after_nobody (Forget node) client old new nobody same = after_another (Forget node) client old new refl (λ asks. asks) same
